use Rattle.fixed_strict.proofs.strict.FixedStrict.strict_sqrt.Goals as goal

pub returns : goal.returns
returns g c = c.exact_number.ensures _ c.sqrt_of.ensures c.requires.fits
