use Rattle.fixed_ops.proofs.plain.FixedPlainSigned.abs.Goals as goal

pub returns : goal.returns
returns g c = c.exact_number.ensures _ c.abs_of.ensures c.requires
