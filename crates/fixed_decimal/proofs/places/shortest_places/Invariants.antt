use Rattle.std.proofs.Common.{◌≤◌, ◌^◌}
use Rattle.fixed_decimal.specs.inside.Close.{IsClose}
use Rattle.fixed_decimal.proofs.places.shortest_places.Given as goal

abbrev pub invariant-loop-places : goal.invariant-loop-places
invariant-loop-places g l =
    record {
      bound : l.places ≤ 20;
      close : IsClose l.magnitude (10 ^ l.places) (2 ^ l.frac);
    }

abbrev pub decreases-loop-places : goal.decreases-loop-places
decreases-loop-places g l = l.places
