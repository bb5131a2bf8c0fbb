use Rattle.fixed_math.proofs.saturating.FixedSaturatingMath.saturating_recip_sqrt.Goals as goal

pub returns : goal.returns
returns g c = c.saturating_number.ensures _ c.recip_sqrt_of.ensures
