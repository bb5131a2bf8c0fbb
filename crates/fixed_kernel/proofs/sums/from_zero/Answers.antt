use Rattle.std.proofs.Common.{◌∙◌}
use Rattle.fixed_word.proofs.Wraps.{width_pos}
use Rattle.fixed_kernel.proofs.Distances.{from_zero_left}
use Rattle.fixed_kernel.proofs.sums.from_zero.Goals as goal

pub returns : goal.returns
returns g c = λ x least less left. record {
  wrapped = left;
  side = c.above_if-side.ensures ∙ from_zero_left g.T.RawWord.SIGNED g.T.Valued.BITS x (g.T.Valued.value c.args.wrapped) c.is_below_zero.result (width_pos g.T.Valued.BITS g.met.T.RawWord.width_law) least less left c.is_below_zero.ensures.sign;
}
