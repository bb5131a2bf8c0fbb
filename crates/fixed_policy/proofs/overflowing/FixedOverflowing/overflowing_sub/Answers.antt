use Rattle.fixed_policy.proofs.overflowing.FixedOverflowing.overflowing_sub.Goals as goal

pub returns : goal.returns
returns g c = c.overflowing_number.ensures _ c.sub_of.ensures
