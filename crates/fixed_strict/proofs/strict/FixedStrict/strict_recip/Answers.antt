use Rattle.fixed_strict.proofs.strict.FixedStrict.strict_recip.Goals as goal

pub returns : goal.returns
returns g c = c.exact_number.ensures _ c.recip_of.ensures c.requires.fits
