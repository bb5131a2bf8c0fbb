use Rattle.fixed_policy.proofs.overflowing.FixedOverflowing.overflowing_next_multiple_of.Goals as goal

pub returns : goal.returns
returns g c = c.overflowing_number.ensures _ c.next_multiple_of_of.ensures
