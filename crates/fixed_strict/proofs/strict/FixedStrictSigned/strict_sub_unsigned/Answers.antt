use Rattle.fixed_strict.proofs.strict.FixedStrictSigned.strict_sub_unsigned.Goals as goal

pub returns : goal.returns
returns g c = c.exact_number.ensures _ c.mixed_sub_of.ensures c.requires
