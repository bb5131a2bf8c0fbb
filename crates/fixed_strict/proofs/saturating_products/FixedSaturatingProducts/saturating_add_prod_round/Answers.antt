use Rattle.fixed_strict.proofs.saturating_products.FixedSaturatingProducts.saturating_add_prod_round.Goals as goal

pub returns : goal.returns
returns g c = c.held_number.ensures _ c.add_prod_round_of.ensures
