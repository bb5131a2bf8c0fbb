use Rattle.std.proofs.Common.{◌≡◌, pos}
use Rattle.fixed_word.specs.Format.{wrap}
use Rattle.fixed_policy.specs.DotProduct.{pairs}
use Rattle.fixed_filter.specs.Replies.{accumulator}
use Rattle.fixed_filter.proofs.accumulation.wrapped_sum_of_past.Given as goal

abbrev pub invariant-loop-i : goal.invariant-loop-i
invariant-loop-i g l =
    let number = g.T.Valued.value in
    number l.sum ≡ wrap g.T.RawWord.SIGNED g.T.Valued.BITS (accumulator (pos l.down) (pairs number number l.taps l.past) l.i)
