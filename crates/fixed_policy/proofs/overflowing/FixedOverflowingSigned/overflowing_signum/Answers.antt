use Rattle.fixed_policy.proofs.overflowing.FixedOverflowingSigned.overflowing_signum.Goals as goal

pub returns : goal.returns
returns g c = c.overflowing_number.ensures _ c.signum_of.ensures
