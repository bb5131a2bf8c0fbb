use Rattle.std.proofs.Common.{ap, sym, ◌∙◌, arith, length, take}
use Rattle.fixed_word.proofs.Wraps.{width_pos}
use Rattle.fixed_filter.proofs.Sums.{of_slice}
use Rattle.fixed_filter.proofs.Untested.{wrap_of_zero, wrapped_step}
use Rattle.fixed_filter.proofs.accumulation.wrapped_sum_of_past.Goals as goal

pub loop-i-init : goal.loop-i-init
loop-i-init g c = ap g.T.Valued.value c.ZERO-sum.ensures ∙ g.met.T.RawWord.zero_law ∙ sym (wrap_of_zero g.T.RawWord.SIGNED g.T.Valued.BITS g.met.T.RawWord.width_law)

pub loop-i-preserved : goal.loop-i-preserved
loop-i-preserved g c =
    let number = g.T.Valued.value in
    let taps = c.args.taps.now in
    let past = c.args.past.now in
    let walked = take (length taps) past in
    wrapped_step number number g.T.RawWord.SIGNED g.T.Valued.BITS c.args.down taps walked (of_slice taps past c.requires.lengths) c.loop-i.i c.index-taps-i.result c.index-past-i.result (omega arith) c.index-taps-i.is c.index-past-i.is (number c.loop-i.sum) (number c.wrapped_add_prod-sum.result) (width_pos g.T.Valued.BITS g.met.T.RawWord.width_law) c.loop-i.invariant c.wrapped_add_prod-sum.ensures
