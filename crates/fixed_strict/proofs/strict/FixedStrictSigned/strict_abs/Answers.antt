use Rattle.fixed_strict.proofs.strict.FixedStrictSigned.strict_abs.Goals as goal

pub returns : goal.returns
returns g c = c.exact_number.ensures _ c.abs_of.ensures c.requires
