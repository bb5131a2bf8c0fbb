use Rattle.std.proofs.Common.{arith}
use Rattle.fixed_elementary.proofs.Closing.{broad_near}
use Rattle.fixed_elementary.proofs.Reduced.{over_factor}
use Rattle.fixed_elementary.proofs.reductions.broad_step.Goals as goal

pub returns-clause-near : goal.returns-clause-near
returns-clause-near c =
    let scaled = c.broad_scaled.ensures in
    broad_near c.args.group c.args.mantissa _ _ _ c.requires.group c.broad_digit-digit.ensures c.requires.near c.factor_of-factor.ensures.near scaled.below scaled.above

pub returns-clause-log : goal.returns-clause-log
returns-clause-log c =
    let factor = c.factor_of-factor.result in
    let near = c.factor_of-factor.ensures.near in
    let scaled = c.broad_scaled.ensures in
    let least = (returns-clause-near c).least in
    over_factor 126 c.args.mantissa factor.factor _ _ near.some least scaled.below (omega (arith, scaled.above)) c.factor_of-factor.ensures.log

pub broad_scaled-requires : goal.broad_scaled-requires
broad_scaled-requires c = c.factor_of-factor.ensures.near.one
