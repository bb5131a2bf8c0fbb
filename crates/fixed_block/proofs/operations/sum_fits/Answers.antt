use Rattle.std.proofs.Common.{sym, ◌∙◌}
use Rattle.fixed_word.proofs.Wraps.{width_pos}
use Rattle.fixed_block.proofs.Signs.{sum_kept}
use Rattle.fixed_block.proofs.operations.sum_fits.Goals as goal

pub returns-else-below_zero-is_below_zero : goal.returns-else-below_zero-is_below_zero
returns-else-below_zero-is_below_zero g c =
    let n = g.T.Valued.BITS in
    let first = c.is_below_zero-below_zero.ensures in
    let second = c.is_below_zero.ensures in
    sum_kept g.T.RawWord.SIGNED n _ _ _ _ _ _ (sym c.SIGNED.ensures ∙ c.if-SIGNED.true) (width_pos n g.met.T.RawWord.width_law) first.in_range second.in_range first.sign second.sign c.add_of-sum.ensures.wrapped c.is_below_zero-else-below_zero-is_below_zero.ensures.sign c.if-below_zero-is_below_zero.false
