use Rattle.fixed_strict.proofs.strict.FixedStrict.strict_dist.Goals as goal

pub returns : goal.returns
returns g c = c.exact_number.ensures _ c.dist_of.ensures c.requires
