use Rattle.std.proofs.Common.{arith}
use Rattle.fixed_elementary.proofs.Closing.{narrow_near}
use Rattle.fixed_elementary.proofs.Reduced.{factor_in, over_factor}
use Rattle.fixed_elementary.proofs.reductions.narrow_step.Goals as goal

pub returns-clause-near : goal.returns-clause-near
returns-clause-near c =
    let scaled = c.narrow_scaled.ensures in
    narrow_near c.args.group c.args.mantissa _ _ _ c.requires.group c.narrow_digit-digit.ensures c.requires.near c.factor_of-factor.ensures.near scaled.below scaled.above

pub returns-clause-log : goal.returns-clause-log
returns-clause-log c =
    let factor = c.factor_of-factor.result in
    let near = c.factor_of-factor.ensures.near in
    let scaled = c.narrow_scaled.ensures in
    let least = (returns-clause-near c).least in
    over_factor 62 c.args.mantissa factor.factor _ _ near.some least scaled.below (omega (arith, scaled.above)) (factor_in 62 64 factor.factor factor.log _ (omega arith) (omega arith) c.factor_of-factor.ensures.log)

pub narrow_scaled-requires : goal.narrow_scaled-requires
narrow_scaled-requires c = c.factor_of-factor.ensures.near.one
