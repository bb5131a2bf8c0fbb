use Rattle.fixed_math.proofs.wrapping.FixedWrappingMath.wrapping_recip_sqrt.Goals as goal

pub returns : goal.returns
returns g c = c.wrapping_number.ensures _ c.recip_sqrt_of.ensures
