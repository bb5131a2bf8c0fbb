use Rattle.std.proofs.Common.{◌≡◌, ℤ, pos}
use Rattle.std.specs.Prelude.{reverse}
use Rattle.fixed_word.specs.Format.{wrap}
use Rattle.fixed_policy.specs.DotProduct.{pairs}
use Rattle.fixed_filter.specs.Replies.{accumulator}
use Rattle.fixed_filter.proofs.window.wrapped_sum_of_window.Given as goal

abbrev pub invariant-loop-i : goal.invariant-loop-i
invariant-loop-i g l =
    let number = g.T.Valued.value in
    let left : g.row.A.Denot → ℤ = λ a. number (g.A.Sample.held a) in
    let right : g.row.B.Denot → ℤ = λ b. number (g.B.Sample.held b) in
    number l.sum ≡ wrap g.T.RawWord.SIGNED g.T.Valued.BITS (accumulator (pos l.down) (pairs left right l.taps (reverse l.window)) l.i)
