use Rattle.fixed_policy.proofs.overflowing.FixedOverflowing.overflowing_dist.Goals as goal

pub returns : goal.returns
returns g c = c.overflowing_number.ensures _ c.dist_of.ensures
