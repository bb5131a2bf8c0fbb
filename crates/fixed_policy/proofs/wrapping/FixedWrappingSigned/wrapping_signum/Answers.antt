use Rattle.fixed_policy.proofs.wrapping.FixedWrappingSigned.wrapping_signum.Goals as goal

pub returns : goal.returns
returns g c = c.wrapping_number.ensures _ c.signum_of.ensures
