use Rattle.fixed_strict.proofs.strict.FixedStrictUnsigned.strict_next_power_of_two.Goals as goal

pub returns : goal.returns
returns g c = c.exact_number.ensures _ c.next_power_of_two_of.ensures c.requires
