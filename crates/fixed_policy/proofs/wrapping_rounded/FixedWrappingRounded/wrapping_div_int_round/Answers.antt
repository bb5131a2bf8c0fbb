use Rattle.fixed_policy.proofs.wrapping_rounded.FixedWrappingRounded.wrapping_div_int_round.Goals as goal

pub returns : goal.returns
returns g c = c.wrapping_number.ensures _ c.div_int_round_of.ensures
