use Rattle.fixed_strict.proofs.strict.FixedStrict.strict_div.Goals as goal

pub returns : goal.returns
returns g c = c.exact_number.ensures _ c.div_of.ensures c.requires.fits
