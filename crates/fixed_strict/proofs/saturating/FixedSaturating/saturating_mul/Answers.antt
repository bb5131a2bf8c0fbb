use Rattle.std.proofs.Common.{ℤ, Some, ap}
use Rattle.fixed_strict.proofs.saturating.FixedSaturating.saturating_mul.Goals as goal

pub returns-then-BITS-eq8 : goal.returns-then-BITS-eq8
returns-then-BITS-eq8 g c = ap (λ (z : ℤ). Some z) c.mul_nearest_of.ensures

pub returns : goal.returns
returns g c = c.held_number.ensures _ c.mul_of.ensures
