use Rattle.fixed_strict.proofs.strict.FixedStrict.strict_mul_int.Goals as goal

pub returns : goal.returns
returns g c = c.exact_number.ensures _ c.mul_int_of.ensures c.requires
