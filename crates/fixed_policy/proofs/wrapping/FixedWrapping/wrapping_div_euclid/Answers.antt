use Rattle.fixed_policy.proofs.wrapping.FixedWrapping.wrapping_div_euclid.Goals as goal

pub returns : goal.returns
returns g c = c.wrapping_number.ensures _ c.div_euclid_of.ensures
