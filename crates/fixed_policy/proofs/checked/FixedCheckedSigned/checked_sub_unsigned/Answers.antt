use Rattle.fixed_policy.proofs.checked.FixedCheckedSigned.checked_sub_unsigned.Goals as goal

pub returns : goal.returns
returns g c = c.checked_number.ensures _ c.mixed_sub_of.ensures
