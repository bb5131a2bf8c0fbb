use Rattle.fixed_policy.proofs.checked.FixedChecked.checked_neg.Goals as goal

pub returns : goal.returns
returns g c = c.checked_number.ensures _ c.neg_of.ensures
