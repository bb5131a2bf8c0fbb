use Rattle.fixed_policy.proofs.wrapping.FixedWrapping.wrapping_mul_int.Goals as goal

pub returns : goal.returns
returns g c = c.wrapping_number.ensures _ c.mul_int_of.ensures
