use Rattle.fixed_strict.proofs.strict.FixedStrict.strict_next_multiple_of.Goals as goal

pub returns : goal.returns
returns g c = c.exact_number.ensures _ c.next_multiple_of_of.ensures c.requires.fits
