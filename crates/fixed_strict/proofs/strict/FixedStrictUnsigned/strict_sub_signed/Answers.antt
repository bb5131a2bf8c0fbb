use Rattle.fixed_strict.proofs.strict.FixedStrictUnsigned.strict_sub_signed.Goals as goal

pub returns : goal.returns
returns g c = c.exact_number.ensures _ c.mixed_sub_of.ensures c.requires
