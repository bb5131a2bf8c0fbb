use Rattle.fixed_strict.proofs.strict_products.FixedStrictProducts.strict_add_prod_round.Goals as goal

pub returns : goal.returns
returns g c = c.exact_number.ensures _ c.add_prod_round_of.ensures c.requires.fits
