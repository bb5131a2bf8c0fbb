use Rattle.fixed_policy.proofs.wrapping.FixedWrapping.wrapping_rem_euclid_int.Goals as goal

pub returns : goal.returns
returns g c = c.wrapping_number.ensures _ c.rem_euclid_int_of.ensures
