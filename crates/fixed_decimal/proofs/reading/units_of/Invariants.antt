use Rattle.std.proofs.Common.{◌≡◌, ◌*◌, ◌-◌, ◌^◌, ◌≤◌, take}
use Rattle.std.specs.Str.Parse.{digits_value}
use Rattle.fixed_decimal.specs.inside.Reading.{held}
use Rattle.fixed_decimal.proofs.reading.units_of.Given as goal

abbrev pub invariant-loop-start : goal.invariant-loop-start
invariant-loop-start l =
    record {
      within : l.start ≤ l.point;
      value : l.units ≡ held (digits_value 10 (take l.start (take l.point l.bytes)) * 2 ^ l.frac);
    }

abbrev pub decreases-loop-start : goal.decreases-loop-start
decreases-loop-start l = l.point - l.start
