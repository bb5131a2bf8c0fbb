use Rattle.std.proofs.Common.{ap, sym, ◌∙◌, ℤ, arith, length, take}
use Rattle.std.specs.Prelude.{reverse}
use Rattle.fixed_word.proofs.Wraps.{width_pos}
use Rattle.fixed_filter.proofs.Sums.{from_end, of_turned}
use Rattle.fixed_filter.proofs.Untested.{wrap_of_zero, wrapped_step}
use Rattle.fixed_filter.proofs.window.wrapped_sum_of_window.Goals as goal

pub loop-i-init : goal.loop-i-init
loop-i-init g c = ap g.T.Valued.value c.ZERO-sum.ensures ∙ g.met.T.RawWord.zero_law ∙ sym (wrap_of_zero g.T.RawWord.SIGNED g.T.Valued.BITS g.met.T.RawWord.width_law)

pub loop-i-preserved : goal.loop-i-preserved
loop-i-preserved g c =
    let number = g.T.Valued.value in
    let left : g.row.A.Denot → ℤ = λ a. number (g.A.Sample.held a) in
    let right : g.row.B.Denot → ℤ = λ b. number (g.B.Sample.held b) in
    let taps = c.args.taps.now in
    let window = c.args.window.now in
    let walked = reverse (take (length taps) window) in
    let e = c.requires.lengths in
    let by_tap = rw c.to_word-tap.ensures at c.wrapped_add_prod-sum.ensures in
    let told = rw c.to_word-sample.ensures at by_tap in
    wrapped_step left right g.T.RawWord.SIGNED g.T.Valued.BITS c.args.down taps walked (of_turned taps window e) c.loop-i.i c.index-taps-i.result c.index-window-back.result (omega arith) c.index-taps-i.is (from_end taps window e c.loop-i.i c.index-window-back.result (omega arith) c.index-window-back.is) (number c.loop-i.sum) (number c.wrapped_add_prod-sum.result) (width_pos g.T.Valued.BITS g.met.T.RawWord.width_law) c.loop-i.invariant told
