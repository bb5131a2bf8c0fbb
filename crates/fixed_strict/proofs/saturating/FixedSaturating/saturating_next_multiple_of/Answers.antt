use Rattle.fixed_strict.proofs.saturating.FixedSaturating.saturating_next_multiple_of.Goals as goal

pub returns : goal.returns
returns g c = c.saturating_number.ensures _ c.next_multiple_of_of.ensures
