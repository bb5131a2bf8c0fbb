use Rattle.fixed_policy.proofs.checked.FixedCheckedSigned.checked_abs.Goals as goal

pub returns : goal.returns
returns g c = c.checked_number.ensures _ c.abs_of.ensures
