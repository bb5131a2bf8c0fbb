use Rattle.fixed_policy.proofs.checked.FixedCheckedSigned.checked_add_unsigned.Goals as goal

pub returns : goal.returns
returns g c = c.checked_number.ensures _ c.mixed_add_of.ensures
