use Rattle.fixed_word.proofs.Wraps.{width_pos}
use Rattle.fixed_kernel.proofs.WholeRoom.{product_room}
use Rattle.fixed_block.proofs.operations.whole_product.Goals as goal

pub times-requires : goal.times-requires
times-requires g c =
    let n = g.T.Valued.BITS in
    let other = c.whole-2.ensures in
    product_room g.T.RawWord.SIGNED g.T.Whole.Integer.SIGNED n g.T.Whole.Valued.BITS _ _ _ _ g.met.T.Arithmetic.whole_sign_law (width_pos n g.met.T.RawWord.width_law) g.met.T.Arithmetic.whole_width_law c.whole.ensures.value other.value c.whole.ensures.in_range other.in_range
