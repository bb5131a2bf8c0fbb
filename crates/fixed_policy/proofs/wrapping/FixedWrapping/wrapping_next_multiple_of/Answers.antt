use Rattle.fixed_policy.proofs.wrapping.FixedWrapping.wrapping_next_multiple_of.Goals as goal

pub returns : goal.returns
returns g c = c.wrapping_number.ensures _ c.next_multiple_of_of.ensures
