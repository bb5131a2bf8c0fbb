use Rattle.fixed_ops.proofs.plain.FixedPlain.dist.Goals as goal

pub returns : goal.returns
returns g c = c.exact_number.ensures _ c.dist_of.ensures c.requires
