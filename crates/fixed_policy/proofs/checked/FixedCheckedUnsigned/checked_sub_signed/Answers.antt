use Rattle.fixed_policy.proofs.checked.FixedCheckedUnsigned.checked_sub_signed.Goals as goal

pub returns : goal.returns
returns g c = c.checked_number.ensures _ c.mixed_sub_of.ensures
