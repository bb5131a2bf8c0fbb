use Rattle.fixed_policy.proofs.checked_products.FixedCheckedMulAdd.checked_mul_add_round.Goals as goal

pub returns : goal.returns
returns g c = c.checked_number.ensures _ c.mul_add_round_of.ensures
