use Rattle.fixed_ops.proofs.plain.FixedPlain.rem_euclid_int.Goals as goal

pub returns : goal.returns
returns g c = c.exact_number.ensures _ c.rem_euclid_int_of.ensures c.requires.fits
