use Rattle.std.proofs.Common.{ap, subst, ◌∙◌, ◌≤◌, ℤ, arith}
use Rattle.std.specs.Prelude.{unsigned_abs}
use Rattle.std.specs.List.{All}
use Rattle.std.proofs.lemmas.List.{take_all}
use Rattle.fixed_word.specs.Format.{InRange}
use Rattle.fixed_filter.proofs.Untested.{peak_more}
use Rattle.fixed_filter.proofs.headroom.peak.Goals.{then-most-magnitude, else-most-magnitude}
use Rattle.fixed_filter.proofs.headroom.peak.Goals as goal

pub loop-i-preserved : goal.loop-i-preserved
loop-i-preserved g c =
    let number = g.T.Valued.value in
    let value : g.row.B.Denot → ℤ = λ b. number (g.B.Sample.held b) in
    let size = c.magnitude-magnitude.ensures.magnitude ∙ ap (λ w. unsigned_abs (number w)) c.to_word.ensures in
    let more = peak_more value g.T.RawWord.SIGNED g.T.Valued.BITS c.args.samples.now c.loop-i.i c.index-samples-i.result c.magnitude-magnitude.result c.loop-i-test.true c.index-samples-i.is size (rw c.to_word.ensures at c.magnitude-magnitude.ensures.in_range) c.loop-i.most c.if-most-magnitude.most in
    elim c.if-most-magnitude.branch [
      | then-most-magnitude w ↦ more (omega (arith, w.if-most-magnitude, w.most-is)) (omega (arith, w.most-is)) c.loop-i.invariant
      | else-most-magnitude w ↦ more (omega (arith, w.most-is)) (omega (arith, w.if-most-magnitude, w.most-is)) c.loop-i.invariant
    ]

pub returns-clause-most : goal.returns-clause-most
returns-clause-most g c =
    let number = g.T.Valued.value in
    let small : g.row.B.Denot → Type 0 = λ b. unsigned_abs (number (g.B.Sample.held b)) ≤ c.loop-i.most in
    subst (All small) (take_all c.loop-i.i c.args.samples.now (omega arith)) c.loop-i.invariant.each

pub returns-clause-in_range : goal.returns-clause-in_range
returns-clause-in_range g c =
    let number = g.T.Valued.value in
    let fits : g.row.B.Denot → Type 0 = λ b. InRange g.T.RawWord.SIGNED g.T.Valued.BITS (number (g.B.Sample.held b)) in
    subst (All fits) (take_all c.loop-i.i c.args.samples.now (omega arith)) c.loop-i.invariant.in_range
