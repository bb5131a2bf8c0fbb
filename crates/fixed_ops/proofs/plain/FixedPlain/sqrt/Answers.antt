use Rattle.fixed_ops.proofs.plain.FixedPlain.sqrt.Goals as goal

pub returns : goal.returns
returns g c = c.exact_number.ensures _ c.sqrt_of.ensures c.requires.fits
