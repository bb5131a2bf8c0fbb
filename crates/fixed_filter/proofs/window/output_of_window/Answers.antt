use Rattle.std.proofs.Common.{ap, refl, ◌∙◌, ℤ, arith, length, take}
use Rattle.std.specs.Prelude.{reverse}
use Rattle.fixed_filter.specs.Banks.{places_of}
use Rattle.fixed_filter.specs.Replies.{filter_reply}
use Rattle.fixed_policy.specs.DotProduct.{pairs}
use Rattle.fixed_filter.proofs.Sums.{as_many, ends, from_end, of_turned, steps, stops}
use Rattle.fixed_filter.proofs.window.output_of_window.Goals as goal

pub loop-i-init : goal.loop-i-init
loop-i-init g c = record { value = ap g.T.Valued.value c.ZERO-sum.ensures ∙ g.met.T.RawWord.zero_law; fitted = refl }

pub loop-i-preserved : goal.loop-i-preserved
loop-i-preserved g c =
    let number = g.T.Valued.value in
    let left : g.row.A.Denot → ℤ = λ a. number (g.A.Sample.held a) in
    let right : g.row.B.Denot → ℤ = λ b. number (g.B.Sample.held b) in
    let shape = c.args.shape.now in
    let taps = c.args.taps.now in
    let window = c.args.window.now in
    let walked = reverse (take (length taps) window) in
    let e = c.requires.lengths in
    let by_tap = rw c.to_word-tap.ensures at c.in-Some.ensures in
    let told = rw c.to_word-sample.ensures at by_tap in
    steps left right g.T.RawWord.SIGNED g.T.Valued.BITS shape.out_frac shape.coef_frac shape.sample_frac taps walked (of_turned taps window c.requires.lengths) (number c.loop-i.sum) c.loop-i.i c.index-taps-i.result c.index-window-back.result (omega arith) c.index-taps-i.is (from_end taps window e c.loop-i.i c.index-window-back.result (omega arith) c.index-window-back.is) c.loop-i.invariant (number c.in-Some.next) told

pub returns-in-None : goal.returns-in-None
returns-in-None g c =
    let number = g.T.Valued.value in
    let left : g.row.A.Denot → ℤ = λ a. number (g.A.Sample.held a) in
    let right : g.row.B.Denot → ℤ = λ b. number (g.B.Sample.held b) in
    let shape = c.args.shape.now in
    let taps = c.args.taps.now in
    let window = c.args.window.now in
    let walked = reverse (take (length taps) window) in
    let e = c.requires.lengths in
    let by_tap = rw c.to_word-tap.ensures at c.in-None.ensures in
    let told = rw c.to_word-sample.ensures at by_tap in
    stops left right g.T.RawWord.SIGNED g.T.Valued.BITS shape.out_frac shape.coef_frac shape.sample_frac taps walked (of_turned taps window c.requires.lengths) (number c.loop-i.sum) c.loop-i.i c.index-taps-i.result c.index-window-back.result (omega arith) c.index-taps-i.is (from_end taps window e c.loop-i.i c.index-window-back.result (omega arith) c.index-window-back.is) c.loop-i.invariant told
    ∙ ap (λ all. filter_reply g.T.RawWord.SIGNED g.T.Valued.BITS (places_of shape) (pairs left right taps (reverse all))) (as_many taps window c.requires.lengths)

pub returns : goal.returns
returns g c =
    let number = g.T.Valued.value in
    let left : g.row.A.Denot → ℤ = λ a. number (g.A.Sample.held a) in
    let right : g.row.B.Denot → ℤ = λ b. number (g.B.Sample.held b) in
    let shape = c.args.shape.now in
    let taps = c.args.taps.now in
    let window = c.args.window.now in
    let walked = reverse (take (length taps) window) in
    ends left right g.T.RawWord.SIGNED g.T.Valued.BITS shape.out_frac shape.coef_frac shape.sample_frac taps walked (of_turned taps window c.requires.lengths) (number c.loop-i.sum) c.loop-i.i (omega arith) c.loop-i.invariant
    ∙ ap (λ all. filter_reply g.T.RawWord.SIGNED g.T.Valued.BITS (places_of shape) (pairs left right taps (reverse all))) (as_many taps window c.requires.lengths)
