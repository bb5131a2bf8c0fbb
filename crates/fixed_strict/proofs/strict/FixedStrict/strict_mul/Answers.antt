use Rattle.fixed_strict.proofs.strict.FixedStrict.strict_mul.Goals as goal

pub returns : goal.returns
returns g c = c.exact_number.ensures _ c.mul_of.ensures c.requires.fits
