use Rattle.fixed_policy.proofs.checked_products.FixedCheckedProducts.checked_add_prod_round.Goals as goal

pub returns : goal.returns
returns g c = c.checked_number.ensures _ c.add_prod_round_of.ensures
