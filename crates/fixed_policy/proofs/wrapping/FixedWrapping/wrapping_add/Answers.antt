use Rattle.fixed_policy.proofs.wrapping.FixedWrapping.wrapping_add.Goals as goal

pub returns : goal.returns
returns g c = c.wrapping_number.ensures _ c.add_of.ensures
