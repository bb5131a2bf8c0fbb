use Rattle.fixed_strict.proofs.saturating.FixedSaturatingUnsigned.saturating_sub_signed.Goals as goal

pub returns : goal.returns
returns g c = c.clamped_number.ensures _ c.mixed_sub_of.ensures
