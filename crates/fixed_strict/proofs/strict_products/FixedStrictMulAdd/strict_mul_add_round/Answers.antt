use Rattle.fixed_strict.proofs.strict_products.FixedStrictMulAdd.strict_mul_add_round.Goals as goal

pub returns : goal.returns
returns g c = c.exact_number.ensures _ c.mul_add_round_of.ensures c.requires.fits
