use Rattle.fixed_policy.proofs.wrapping.FixedWrapping.wrapping_div.Goals as goal

pub returns : goal.returns
returns g c = c.wrapping_number.ensures _ c.div_of.ensures
