use Rattle.fixed_policy.proofs.overflowing.FixedOverflowing.overflowing_mul_int.Goals as goal

pub returns : goal.returns
returns g c = c.overflowing_number.ensures _ c.mul_int_of.ensures
