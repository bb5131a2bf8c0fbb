use Rattle.std.proofs.Common.{◌≤◌, ◌-◌, length}
use Rattle.fixed_text.specs.inside.Free.{IsFreeUntil}
use Rattle.fixed_text.proofs.tokens.first_place.Given as goal

abbrev pub invariant-loop-at : goal.invariant-loop-at
invariant-loop-at l =
    record {
      within : l.at ≤ length l.bytes;
      free : IsFreeUntil l.bytes l.byte l.at;
    }

abbrev pub decreases-loop-at : goal.decreases-loop-at
decreases-loop-at l = length l.bytes - l.at
