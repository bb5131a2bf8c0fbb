use Rattle.fixed_policy.proofs.overflowing.FixedOverflowingSigned.overflowing_add_unsigned.Goals as goal

pub returns : goal.returns
returns g c = c.overflowing_number.ensures _ c.mixed_add_of.ensures
