use Rattle.fixed_policy.proofs.overflowing_products.FixedOverflowingProducts.overflowing_add_prod_round.Goals as goal

pub returns : goal.returns
returns g c = c.overflowing_number.ensures _ c.add_prod_round_of.ensures
