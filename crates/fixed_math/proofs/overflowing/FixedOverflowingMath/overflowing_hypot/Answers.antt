use Rattle.fixed_math.proofs.overflowing.FixedOverflowingMath.overflowing_hypot.Goals as goal

pub returns : goal.returns
returns g c = c.overflowing_number.ensures _ c.hypot_of.ensures
