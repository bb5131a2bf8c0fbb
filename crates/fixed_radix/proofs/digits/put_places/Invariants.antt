use Rattle.std.proofs.Common.{◌≡◌, ◌-◌, ◌^◌, ◌≤◌, ◌++◌, drop}
use Rattle.fixed_radix.specs.Bases.{last_digits}
use Rattle.fixed_radix.proofs.digits.put_places.Given as goal

abbrev pub invariant-loop-at : goal.invariant-loop-at
invariant-loop-at l =
    record {
      from : l.start ≤ l.at;
      within : l.at ≤ l.end;
      digits : last_digits (2 ^ l.bits) l.upper l.number l.count ++ drop l.end l.fn.buffer ≡ last_digits (2 ^ l.bits) l.upper l.rest (l.at - l.start) ++ drop l.at l.buffer;
    }

abbrev pub decreases-loop-at : goal.decreases-loop-at
decreases-loop-at l = l.at
