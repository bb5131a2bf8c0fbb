use Rattle.fixed_policy.proofs.overflowing.FixedOverflowingSigned.overflowing_abs.Goals as goal

pub returns : goal.returns
returns g c = c.overflowing_number.ensures _ c.abs_of.ensures
