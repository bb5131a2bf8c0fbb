use Rattle.fixed_strict.proofs.saturating_products.FixedSaturatingMulAdd.saturating_mul_add_round.Goals as goal

pub returns : goal.returns
returns g c = c.held_number.ensures _ c.mul_add_round_of.ensures
