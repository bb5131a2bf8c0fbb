use Rattle.fixed_policy.proofs.checked.FixedChecked.checked_mul_int.Goals as goal

pub returns : goal.returns
returns g c = c.checked_number.ensures _ c.mul_int_of.ensures
