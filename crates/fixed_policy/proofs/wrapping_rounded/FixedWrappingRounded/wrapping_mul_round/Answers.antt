use Rattle.fixed_policy.proofs.wrapping_rounded.FixedWrappingRounded.wrapping_mul_round.Goals as goal

pub returns : goal.returns
returns g c = c.wrapping_number.ensures _ c.mul_round_of.ensures
