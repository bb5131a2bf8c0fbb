use Rattle.fixed_policy.proofs.checked.FixedCheckedUnsigned.checked_next_power_of_two.Goals as goal

pub returns : goal.returns
returns g c = c.checked_number.ensures _ c.next_power_of_two_of.ensures
