use Rattle.fixed_policy.proofs.wrapping_products.FixedWrappingProducts.wrapping_add_prod_round.Goals as goal

pub returns : goal.returns
returns g c = c.wrapping_number.ensures _ c.add_prod_round_of.ensures
