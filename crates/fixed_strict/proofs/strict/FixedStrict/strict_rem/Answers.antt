use Rattle.fixed_strict.proofs.strict.FixedStrict.strict_rem.Goals as goal

pub returns : goal.returns
returns g c = c.exact_number.ensures _ c.rem_of.ensures c.requires.fits
