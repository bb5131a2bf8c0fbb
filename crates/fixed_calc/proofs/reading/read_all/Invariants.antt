use Rattle.std.proofs.Common.{◌≡◌, ◌≤◌, ◌-◌, ℕ, length}
use Rattle.std.specs.Io.KnownBytes.{Consumes}
use Rattle.fixed_calc.specs.Calls.{GaveBytes}
use Rattle.fixed_calc.specs.Headline.{limit}
use Rattle.fixed_calc.proofs.reading.read_all.Given as goal

-- the script is what was taken so far, within the limit, and no read failed or met the end
abbrev pub invariant-reading : goal.invariant-reading
invariant-reading g l =
    let before = g.S.Source.state l.fn.source in
    let now = g.S.Source.state l.source in
    record {
      within : length l.script.items ≤ limit;
      taken : Consumes before.left now.left l.script.items;
      faults : now.faults ≡ before.faults;
      reads : (calls : ℕ) × GaveBytes g.S.Source.read_gives calls (length l.script.items) l.fn.source l.source;
    }

abbrev pub decreases-reading : goal.decreases-reading
decreases-reading g l = limit - length l.script.items
