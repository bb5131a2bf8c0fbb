use Rattle.fixed_math.proofs.wrapping.FixedWrappingMath.wrapping_hypot.Goals as goal

pub returns : goal.returns
returns g c = c.wrapping_number.ensures _ c.hypot_of.ensures
