use Rattle.fixed_policy.proofs.overflowing.FixedOverflowing.overflowing_rem_euclid_int.Goals as goal

pub returns : goal.returns
returns g c = c.overflowing_number.ensures _ c.rem_euclid_int_of.ensures
