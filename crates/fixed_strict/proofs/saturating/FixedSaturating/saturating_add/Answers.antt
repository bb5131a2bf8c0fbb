use Rattle.fixed_strict.proofs.saturating.FixedSaturating.saturating_add.Goals as goal

pub returns : goal.returns
returns g c = c.saturating_number.ensures _ c.add_of.ensures
