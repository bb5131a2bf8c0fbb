use Rattle.fixed_strict.proofs.saturating_rounded.FixedSaturatingRounded.saturating_mul_round.Goals as goal

pub returns : goal.returns
returns g c = c.saturating_number.ensures _ c.mul_round_of.ensures
