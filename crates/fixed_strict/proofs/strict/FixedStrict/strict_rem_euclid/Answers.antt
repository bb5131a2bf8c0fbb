use Rattle.fixed_strict.proofs.strict.FixedStrict.strict_rem_euclid.Goals as goal

pub returns : goal.returns
returns g c = c.exact_number.ensures _ c.rem_euclid_of.ensures c.requires.fits
