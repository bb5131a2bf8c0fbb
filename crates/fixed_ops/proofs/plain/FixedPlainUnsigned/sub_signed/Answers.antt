use Rattle.fixed_ops.proofs.plain.FixedPlainUnsigned.sub_signed.Goals as goal

pub returns : goal.returns
returns g c = c.exact_number.ensures _ c.mixed_sub_of.ensures c.requires
