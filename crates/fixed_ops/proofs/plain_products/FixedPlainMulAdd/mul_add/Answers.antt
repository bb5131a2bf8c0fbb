use Rattle.fixed_ops.proofs.plain_products.FixedPlainMulAdd.mul_add.Goals as goal

pub returns : goal.returns
returns g c = c.exact_number.ensures _ c.mul_add_of.ensures c.requires.fits
