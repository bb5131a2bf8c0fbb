use Rattle.std.proofs.Common.{rules, arith}
use Rattle.fixed_turns.proofs.Splits.{on_a_side, whole_is}
use Rattle.fixed_turns.proofs.radians.split_units.Goals as goal

pub returns-clause-value : goal.returns-clause-value
returns-clause-value c = λ p m f k i u least most.
    let n = c.quarters_in-quarter in
    let r = c.radians_in-whole in
    let w = whole_is m f n.result c.args.x r.result k u least most (search rules) r.ensures.below r.ensures.above in
    on_a_side p m f n.result c.args.x r.result c.wrapping_neg.result c.saturating_sub.result c.either.result w i c.ranges.x.fits r.type_inv (omega (arith, n.ensures.least, r.ensures.above))
    (omega (arith, n.ensures.most, r.ensures.below)) c.wrapping_neg.ensures c.wrapping_neg.type_inv c.saturating_sub.ensures c.either.ensures
