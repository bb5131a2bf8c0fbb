use Rattle.fixed_policy.proofs.overflowing_products.FixedOverflowingMulAdd.overflowing_mul_add_round.Goals as goal

pub returns : goal.returns
returns g c = c.overflowing_number.ensures _ c.mul_add_round_of.ensures
