use Rattle.fixed_policy.proofs.overflowing_rounded.FixedOverflowingRounded.overflowing_div_round.Goals as goal

pub returns : goal.returns
returns g c = c.overflowing_number.ensures _ c.div_round_of.ensures
