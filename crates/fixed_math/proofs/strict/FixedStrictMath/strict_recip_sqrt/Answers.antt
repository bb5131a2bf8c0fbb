use Rattle.fixed_math.proofs.strict.FixedStrictMath.strict_recip_sqrt.Goals as goal

pub returns : goal.returns
returns g c = c.exact_number.ensures _ c.recip_sqrt_of.ensures c.requires.fits
