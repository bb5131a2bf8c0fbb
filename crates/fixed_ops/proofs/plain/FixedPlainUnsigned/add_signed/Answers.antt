use Rattle.fixed_ops.proofs.plain.FixedPlainUnsigned.add_signed.Goals as goal

pub returns : goal.returns
returns g c = c.exact_number.ensures _ c.mixed_add_of.ensures c.requires
