use Rattle.std.proofs.Common.{rules, ◌≡◌, ◌*ℤ◌, of_z, to_z, ◌∙◌, arith}
use Rattle.std.specs.Int.{w128}
use Rattle.fixed_block.proofs.Sums.{next_from, next_sum, past_from}
use Rattle.fixed_block.proofs.dots.signed_sum_from.Goals as goal

pub returns-in-None-clause-none : goal.returns-in-None-clause-none
returns-in-None-clause-none g c = λ e fit.
    let value = g.T.Valued.value in
    let x = c.index-a-at.result in
    let y = c.index-b-at.result in
    let a : to_z w128 (of_z w128 c.to_wide.result) ≡ value x = search rules in
    let b : to_z w128 (of_z w128 c.to_wide-in-loop-at.result) ≡ value y = search rules in
    let from : to_z w128 (of_z w128 c.args.from) ≡ c.args.from = search rules in
    let next = next_sum value c.args.a.now c.args.b.now c.loop-at.at x y (omega arith) c.requires.lengths c.index-a-at.is c.index-b-at.is in
    let never = rw (a, b) at c.in-None.ensures.none in
    let is = rw from at c.loop-at.invariant.sum in
    past_from value c.args.a.now c.args.b.now c.loop-at.at c.args.from (to_z w128 c.loop-at.sum-bits) (value x *ℤ value y) (omega arith) next is fit (never e)

pub loop-at-preserved : goal.loop-at-preserved
loop-at-preserved g c =
    let value = g.T.Valued.value in
    let x = c.index-a-at.result in
    let y = c.index-b-at.result in
    let a : to_z w128 (of_z w128 c.to_wide.result) ≡ value x = search rules in
    let b : to_z w128 (of_z w128 c.to_wide-in-loop-at.result) ≡ value y = search rules in
    let next = next_sum value c.args.a.now c.args.b.now c.loop-at.at x y (omega arith) c.requires.lengths c.index-a-at.is c.index-b-at.is in
    let same : to_z w128 (of_z w128 c.in-Some.more) ≡ c.in-Some.more = search rules in
    let more = rw (a, b) at c.in-Some.ensures.some in
    record { sum = next_from _ _ _ _ _ _ c.loop-at.invariant.sum (same ∙ more) next }
