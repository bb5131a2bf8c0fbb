use Rattle.fixed_policy.proofs.overflowing.FixedOverflowing.overflowing_div_euclid_int.Goals as goal

pub returns : goal.returns
returns g c = c.overflowing_number.ensures _ c.div_euclid_int_of.ensures
