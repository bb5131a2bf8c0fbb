use Rattle.std.proofs.Common.{refl, arith}
use Rattle.fixed_turns.proofs.FewTurns.{near_by, split_is, split_small}
use Rattle.fixed_turns.proofs.narrow.split_near.Goals as goal

pub overflow_mul-result : goal.overflow_mul-result
overflow_mul-result c =
    let n = c.quarters_near-quarter in
    let w = c.wrapping_neg in
    let h = near_by c.args.magnitude c.args.frac n.result c.requires.frac c.requires.few n.ensures.most n.ensures.least in
    let small = split_small c.args.magnitude c.args.frac n.result _ w.result c.either.result h refl w.ensures w.type_inv c.either.ensures in
    omega (arith, small)

pub returns-clause-value : goal.returns-clause-value
returns-clause-value c = λ p i.
    let n = c.quarters_near-quarter in
    let w = c.wrapping_neg in
    let h = near_by c.args.magnitude c.args.frac n.result c.requires.frac c.requires.few n.ensures.most n.ensures.least in
    split_is p c.args.magnitude c.args.frac n.result _ w.result c.either.result c.requires.frac i h refl w.ensures w.type_inv c.either.ensures

pub returns-clause-small : goal.returns-clause-small
returns-clause-small c =
    let n = c.quarters_near-quarter in
    let w = c.wrapping_neg in
    let h = near_by c.args.magnitude c.args.frac n.result c.requires.frac c.requires.few n.ensures.most n.ensures.least in
    split_small c.args.magnitude c.args.frac n.result _ w.result c.either.result h refl w.ensures w.type_inv c.either.ensures
