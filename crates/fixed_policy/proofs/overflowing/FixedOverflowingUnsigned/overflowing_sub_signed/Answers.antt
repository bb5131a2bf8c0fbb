use Rattle.fixed_policy.proofs.overflowing.FixedOverflowingUnsigned.overflowing_sub_signed.Goals as goal

pub returns : goal.returns
returns g c = c.overflowing_number.ensures _ c.mixed_sub_of.ensures
