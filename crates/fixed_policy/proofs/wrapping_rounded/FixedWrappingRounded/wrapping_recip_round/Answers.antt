use Rattle.fixed_policy.proofs.wrapping_rounded.FixedWrappingRounded.wrapping_recip_round.Goals as goal

pub returns : goal.returns
returns g c = c.wrapping_number.ensures _ c.recip_round_of.ensures
