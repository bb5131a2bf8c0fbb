use Rattle.fixed_strict.proofs.saturating.FixedSaturatingSigned.saturating_add_unsigned.Goals as goal

pub returns : goal.returns
returns g c = c.clamped_number.ensures _ c.mixed_add_of.ensures
