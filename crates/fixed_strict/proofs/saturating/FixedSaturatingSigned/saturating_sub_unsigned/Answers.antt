use Rattle.fixed_strict.proofs.saturating.FixedSaturatingSigned.saturating_sub_unsigned.Goals as goal

pub returns : goal.returns
returns g c = c.clamped_number.ensures _ c.mixed_sub_of.ensures
