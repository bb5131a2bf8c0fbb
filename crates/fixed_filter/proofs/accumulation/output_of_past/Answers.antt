use Rattle.std.proofs.Common.{ap, refl, ◌∙◌, ℤ, arith, length, take}
use Rattle.fixed_filter.specs.Banks.{places_of}
use Rattle.fixed_filter.specs.Replies.{filter_reply}
use Rattle.fixed_policy.specs.DotProduct.{pairs}
use Rattle.fixed_filter.proofs.Sums.{as_many, ends, of_slice, steps, stops}
use Rattle.fixed_filter.proofs.accumulation.output_of_past.Goals as goal

pub loop-i-init : goal.loop-i-init
loop-i-init g c = record { value = ap g.T.Valued.value c.ZERO-sum.ensures ∙ g.met.T.RawWord.zero_law; fitted = refl }

pub loop-i-preserved : goal.loop-i-preserved
loop-i-preserved g c =
    let number = g.T.Valued.value in
    let left : g.row.A.Denot → ℤ = λ a. number (g.A.Sample.held a) in
    let right : g.row.B.Denot → ℤ = λ b. number (g.B.Sample.held b) in
    let shape = c.args.shape.now in
    let taps = c.args.taps.now in
    let past = c.args.past.now in
    let walked = take (length taps) past in
    let by_tap = rw c.to_word-tap.ensures at c.in-Some.ensures in
    let told = rw c.to_word-sample.ensures at by_tap in
    steps left right g.T.RawWord.SIGNED g.T.Valued.BITS shape.out_frac shape.coef_frac shape.sample_frac taps walked (of_slice taps past c.requires.lengths) (number c.loop-i.sum) c.loop-i.i c.index-taps-i.result c.index-past-i.result (omega arith) c.index-taps-i.is c.index-past-i.is c.loop-i.invariant (number c.in-Some.next) told

pub returns-in-None : goal.returns-in-None
returns-in-None g c =
    let number = g.T.Valued.value in
    let left : g.row.A.Denot → ℤ = λ a. number (g.A.Sample.held a) in
    let right : g.row.B.Denot → ℤ = λ b. number (g.B.Sample.held b) in
    let shape = c.args.shape.now in
    let taps = c.args.taps.now in
    let past = c.args.past.now in
    let walked = take (length taps) past in
    let by_tap = rw c.to_word-tap.ensures at c.in-None.ensures in
    let told = rw c.to_word-sample.ensures at by_tap in
    stops left right g.T.RawWord.SIGNED g.T.Valued.BITS shape.out_frac shape.coef_frac shape.sample_frac taps walked (of_slice taps past c.requires.lengths) (number c.loop-i.sum) c.loop-i.i c.index-taps-i.result c.index-past-i.result (omega arith) c.index-taps-i.is c.index-past-i.is c.loop-i.invariant told
    ∙ ap (λ all. filter_reply g.T.RawWord.SIGNED g.T.Valued.BITS (places_of shape) (pairs left right taps all)) (as_many taps past c.requires.lengths)

pub returns : goal.returns
returns g c =
    let number = g.T.Valued.value in
    let left : g.row.A.Denot → ℤ = λ a. number (g.A.Sample.held a) in
    let right : g.row.B.Denot → ℤ = λ b. number (g.B.Sample.held b) in
    let shape = c.args.shape.now in
    let taps = c.args.taps.now in
    let past = c.args.past.now in
    let walked = take (length taps) past in
    ends left right g.T.RawWord.SIGNED g.T.Valued.BITS shape.out_frac shape.coef_frac shape.sample_frac taps walked (of_slice taps past c.requires.lengths) (number c.loop-i.sum) c.loop-i.i (omega arith) c.loop-i.invariant
    ∙ ap (λ all. filter_reply g.T.RawWord.SIGNED g.T.Valued.BITS (places_of shape) (pairs left right taps all)) (as_many taps past c.requires.lengths)
