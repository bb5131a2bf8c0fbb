use Rattle.std.proofs.Common.{◌≡◌, ◌==◌, ◌+◌, ◌-◌, ◌*◌, ◌%◌, ◌^◌, ◌<◌, ◌≤◌, ℕ, false}
use Rattle.fixed_radix.proofs.places.exact_places.Given as goal

abbrev pub invariant-loop-places : goal.invariant-loop-places
invariant-loop-places l =
    record {
      within : l.places ≤ l.frac;
      shift : l.bits * l.places < l.frac + l.bits;
      missed : (k : ℕ) → k < l.places → (l.magnitude * 2 ^ (l.bits * k) % 2 ^ l.frac == 0) ≡ false;
    }

abbrev pub decreases-loop-places : goal.decreases-loop-places
decreases-loop-places l = l.frac - l.places
