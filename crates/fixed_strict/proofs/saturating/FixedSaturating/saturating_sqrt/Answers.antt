use Rattle.fixed_strict.proofs.saturating.FixedSaturating.saturating_sqrt.Goals as goal

pub returns : goal.returns
returns g c = c.saturating_number.ensures _ c.sqrt_of.ensures
