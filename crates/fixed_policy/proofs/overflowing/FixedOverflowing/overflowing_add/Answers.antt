use Rattle.fixed_policy.proofs.overflowing.FixedOverflowing.overflowing_add.Goals as goal

pub returns : goal.returns
returns g c = c.overflowing_number.ensures _ c.add_of.ensures
