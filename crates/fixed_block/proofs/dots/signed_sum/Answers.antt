use Rattle.std.proofs.Common.{rules, ◌≡◌, ◌≤◌, ◌+◌, ◌+ℤ◌, ℤ, length, of_z, to_z, refl, ◌∙◌, arith}
use Rattle.std.specs.Int.{w128}
use Rattle.std.proofs.lemmas.Int.{ints}
use Rattle.fixed_block.proofs.Sums.{chunk_step, rest_sum, slice_fits}
use Rattle.fixed_block.proofs.dots.signed_sum.Goals as goal

pub returns-in-None-clause-none : goal.returns-in-None-clause-none
returns-in-None-clause-none g c = λ e fit.
    let sum = to_z w128 c.loop-at.sum-bits in
    c.in-None.ensures.none e (slice_fits g.T.Valued.value c.args.a.now c.args.b.now c.loop-at.at _ _ sum c.loop-at.invariant.front c.requires.lengths refl c.loop-at.invariant.sum fit)

joined : (s p t z more : ℤ) → s ≡ t → more ≡ s +ℤ p → z ≡ t +ℤ p → more ≡ z
joined s p t z more is new next = omega (arith, ints)

pub loop-at-preserved : goal.loop-at-preserved
loop-at-preserved g c =
    let front : c.loop-at.at + 4 ≤ length c.args.a.now = omega arith in
    let same : to_z w128 (of_z w128 c.in-Some.more) ≡ c.in-Some.more = search rules in
    let next = chunk_step g.T.Valued.value c.args.a.now c.args.b.now c.loop-at.at 4 _ front c.requires.lengths refl in
    record { front = front; sum = joined _ _ _ _ _ c.loop-at.invariant.sum (same ∙ c.in-Some.ensures.sum) next }

pub returns-clause-sum : goal.returns-clause-sum
returns-clause-sum g c =
    rw (rest_sum g.T.Valued.value c.args.a.now c.args.b.now c.loop-at.at (to_z w128 c.loop-at.sum-bits) c.loop-at.invariant.front c.requires.lengths c.loop-at.invariant.sum) at c.signed_sum_from-2.ensures.sum

pub returns-clause-none : goal.returns-clause-none
returns-clause-none g c = λ e fit.
    let sum = to_z w128 c.loop-at.sum-bits in
    c.signed_sum_from-2.ensures.none e (slice_fits g.T.Valued.value c.args.a.now c.args.b.now c.loop-at.at _ _ sum c.loop-at.invariant.front c.requires.lengths (omega arith) c.loop-at.invariant.sum fit)
