use Rattle.fixed_policy.proofs.overflowing.FixedOverflowingUnsigned.overflowing_add_signed.Goals as goal

pub returns : goal.returns
returns g c = c.overflowing_number.ensures _ c.mixed_add_of.ensures
