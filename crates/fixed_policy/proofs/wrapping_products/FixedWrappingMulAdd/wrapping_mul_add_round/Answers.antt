use Rattle.fixed_policy.proofs.wrapping_products.FixedWrappingMulAdd.wrapping_mul_add_round.Goals as goal

pub returns : goal.returns
returns g c = c.wrapping_number.ensures _ c.mul_add_round_of.ensures
