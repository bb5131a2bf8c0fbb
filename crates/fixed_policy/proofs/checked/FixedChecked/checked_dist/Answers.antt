use Rattle.fixed_policy.proofs.checked.FixedChecked.checked_dist.Goals as goal

pub returns : goal.returns
returns g c = c.checked_number.ensures _ c.dist_of.ensures
