use Rattle.fixed_strict.proofs.saturating.FixedSaturatingSigned.saturating_signum.Goals as goal

pub returns : goal.returns
returns g c = c.saturating_number.ensures _ c.signum_of.ensures
