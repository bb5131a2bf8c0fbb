use Rattle.std.proofs.Common.{◌≡◌, ◌==◌, ◌*◌, ◌/◌, ◌%◌, ◌^◌, ◌≤◌, length, drop, not}
use Rattle.std.specs.Str.Parse.{digits_value}
use Rattle.fixed_decimal.proofs.reading.halves_of.Given as goal

abbrev pub invariant-loop-end : goal.invariant-loop-end
invariant-loop-end l =
    record {
      within : l.end ≤ length (drop l.from l.bytes);
      halves : l.halves ≡ 2 * (digits_value 10 (drop l.end (drop l.from l.bytes)) * 2 ^ l.frac) / 10 ^ length (drop l.end (drop l.from l.bytes));
      rest : l.rest ≡ not (2 * (digits_value 10 (drop l.end (drop l.from l.bytes)) * 2 ^ l.frac) % 10 ^ length (drop l.end (drop l.from l.bytes)) == 0);
    }

abbrev pub decreases-loop-end : goal.decreases-loop-end
decreases-loop-end l = l.end
