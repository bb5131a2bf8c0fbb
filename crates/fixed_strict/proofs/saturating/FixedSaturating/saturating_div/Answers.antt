use Rattle.std.proofs.Common.{ℤ, Some, ap}
use Rattle.fixed_strict.proofs.saturating.FixedSaturating.saturating_div.Goals as goal

pub returns : goal.returns
returns g c = ap (λ (z : ℤ). Some z) c.div_nearest_of.ensures
