use Rattle.fixed_math.proofs.saturating.FixedSaturatingMath.saturating_hypot.Goals as goal

pub returns : goal.returns
returns g c = c.saturating_number.ensures _ c.hypot_of.ensures
