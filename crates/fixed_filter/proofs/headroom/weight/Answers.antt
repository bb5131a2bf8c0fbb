use Rattle.std.proofs.Common.{rules, ap, subst, ◌≡◌, ◌∙◌, ◌<◌, ◌^◌, ℕ, ℤ, arith}
use Rattle.std.specs.Prelude.{unsigned_abs}
use Rattle.std.specs.List.{All, sum_by}
use Rattle.std.proofs.lemmas.List.{take_all}
use Rattle.fixed_word.specs.Format.{InRange}
use Rattle.fixed_filter.proofs.Untested.{weighed_more}
use Rattle.fixed_filter.proofs.headroom.weight.Goals as goal

pub loop-i-preserved : goal.loop-i-preserved
loop-i-preserved g c =
    let number = g.T.Valued.value in
    let value : g.row.A.Denot → ℤ = λ a. number (g.A.Sample.held a) in
    let small : c.magnitude.result < 2 ^ 64 = search rules in
    weighed_more value g.T.RawWord.SIGNED g.T.Valued.BITS c.args.taps.now c.loop-i.i c.index-taps-i.result c.magnitude.result c.loop-i-test.true c.index-taps-i.is (c.magnitude.ensures.magnitude ∙ ap (λ w. unsigned_abs (number w)) c.to_word.ensures) (rw c.to_word.ensures at c.magnitude.ensures.in_range) c.loop-i.sum small c.loop-i.invariant

pub returns-clause-value : goal.returns-clause-value
returns-clause-value g c =
    let number = g.T.Valued.value in
    let size : g.row.A.Denot → ℕ = λ a. unsigned_abs (number (g.A.Sample.held a)) in
    subst (λ xs. c.loop-i.sum ≡ sum_by size xs) (take_all c.loop-i.i c.args.taps.now (omega arith)) c.loop-i.invariant.total

pub returns-clause-in_range : goal.returns-clause-in_range
returns-clause-in_range g c =
    let number = g.T.Valued.value in
    let fits : g.row.A.Denot → Type 0 = λ a. InRange g.T.RawWord.SIGNED g.T.Valued.BITS (number (g.A.Sample.held a)) in
    subst (All fits) (take_all c.loop-i.i c.args.taps.now (omega arith)) c.loop-i.invariant.in_range
