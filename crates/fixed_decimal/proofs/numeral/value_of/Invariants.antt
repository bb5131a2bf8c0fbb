use Rattle.std.proofs.Common.{◌≡◌, ◌-◌, ◌≤◌, drop, take}
use Rattle.std.specs.Str.Parse.{digits_value}
use Rattle.fixed_decimal.proofs.numeral.value_of.Given as goal

abbrev pub invariant-loop-at : goal.invariant-loop-at
invariant-loop-at l =
    record {
      within : l.at ≤ l.count;
      so_far : l.value ≡ digits_value 10 (take l.at (take l.count (drop l.from l.bytes)));
    }

abbrev pub decreases-loop-at : goal.decreases-loop-at
decreases-loop-at l = l.count - l.at
