use Rattle.fixed_strict.proofs.strict.FixedStrictSigned.strict_signum.Goals as goal

pub returns : goal.returns
returns g c = c.exact_number.ensures _ c.signum_of.ensures c.requires.fits
