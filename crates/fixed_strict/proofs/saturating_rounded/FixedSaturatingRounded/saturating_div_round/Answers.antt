use Rattle.fixed_strict.proofs.saturating_rounded.FixedSaturatingRounded.saturating_div_round.Goals as goal

pub returns : goal.returns
returns g c = c.saturating_number.ensures _ c.div_round_of.ensures
