use Rattle.fixed_policy.proofs.wrapping.FixedWrappingUnsigned.wrapping_next_power_of_two.Goals as goal

pub returns : goal.returns
returns g c = c.wrapping_number.ensures _ c.next_power_of_two_of.ensures
