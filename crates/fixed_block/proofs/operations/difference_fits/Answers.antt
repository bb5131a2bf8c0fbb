use Rattle.std.proofs.Common.{sym, ◌∙◌}
use Rattle.fixed_word.proofs.Wraps.{width_pos}
use Rattle.fixed_block.proofs.Signs.{difference_kept}
use Rattle.fixed_block.proofs.operations.difference_fits.Goals as goal

pub returns-else-below_zero-is_below_zero : goal.returns-else-below_zero-is_below_zero
returns-else-below_zero-is_below_zero g c =
    let n = g.T.Valued.BITS in
    let first = c.is_below_zero-below_zero.ensures in
    let second = c.is_below_zero.ensures in
    difference_kept g.T.RawWord.SIGNED n _ _ _ _ _ _ (sym c.SIGNED.ensures ∙ c.if-SIGNED.true) (width_pos n g.met.T.RawWord.width_law) first.in_range second.in_range first.sign second.sign c.sub_of-difference.ensures.wrapped c.is_below_zero-else-below_zero-is_below_zero.ensures.sign c.if-below_zero-is_below_zero.false
