use Rattle.std.proofs.Common.{ℕ, length, ◌-◌, ◌≡◌, ◌≤◌, take}
use Rattle.std.specs.Io.KnownBytes.{Appends}
use Rattle.fixed_calc.specs.Calls.{TookBytes}
use Rattle.fixed_calc.proofs.writing.write_all.Given as goal

-- what was taken so far is the front of the bytes, each write offered all that was left, and nothing was refused
abbrev pub invariant-loop-at : goal.invariant-loop-at
invariant-loop-at g l =
    let before = g.K.Sink.state l.fn.sink in
    let now = g.K.Sink.state l.sink in
    record {
      within : l.at ≤ length l.bytes;
      taken : Appends before.taken now.taken (take l.at l.bytes);
      faults : now.faults ≡ before.faults;
      shortages : now.shortages ≡ before.shortages;
      writes : (calls : ℕ) × TookBytes g.K.Sink.write_gives l.bytes calls l.at l.fn.sink l.sink;
    }

abbrev pub decreases-loop-at : goal.decreases-loop-at
decreases-loop-at g l = length l.bytes - l.at
