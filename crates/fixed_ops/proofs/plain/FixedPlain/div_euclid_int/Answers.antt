use Rattle.fixed_ops.proofs.plain.FixedPlain.div_euclid_int.Goals as goal

pub returns : goal.returns
returns g c = c.exact_number.ensures _ c.div_euclid_int_of.ensures c.requires.fits
