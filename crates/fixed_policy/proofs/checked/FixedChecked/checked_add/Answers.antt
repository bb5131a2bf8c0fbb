use Rattle.fixed_policy.proofs.checked.FixedChecked.checked_add.Goals as goal

pub returns : goal.returns
returns g c = c.checked_number.ensures _ c.add_of.ensures
