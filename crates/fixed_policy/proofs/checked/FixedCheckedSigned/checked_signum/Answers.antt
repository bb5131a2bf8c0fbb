use Rattle.fixed_policy.proofs.checked.FixedCheckedSigned.checked_signum.Goals as goal

pub returns : goal.returns
returns g c = c.checked_number.ensures _ c.signum_of.ensures
