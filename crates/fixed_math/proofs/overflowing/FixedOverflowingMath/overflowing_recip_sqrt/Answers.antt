use Rattle.fixed_math.proofs.overflowing.FixedOverflowingMath.overflowing_recip_sqrt.Goals as goal

pub returns : goal.returns
returns g c = c.overflowing_number.ensures _ c.recip_sqrt_of.ensures
