use Rattle.fixed_word.proofs.Wraps.{width_pos}
use Rattle.fixed_kernel.proofs.WholeRoom.{product_is, product_room}
use Rattle.fixed_interval.proofs.products.corner.Goals as goal

pub times-requires : goal.times-requires
times-requires g c =
    let n = g.T.Valued.BITS in
    product_room g.T.RawWord.SIGNED g.T.Whole.Integer.SIGNED n g.T.Whole.Valued.BITS _ _ _ _ g.met.T.Arithmetic.whole_sign_law (width_pos n g.met.T.RawWord.width_law) g.met.T.Arithmetic.whole_width_law c.whole.ensures.value c.whole-2.ensures.value c.whole.ensures.in_range c.whole-2.ensures.in_range

pub returns-clause-size : goal.returns-clause-size
returns-clause-size g c = rw (c.times.ensures, c.whole.ensures.value, c.whole-2.ensures.value) (product_is g.T.RawWord.SIGNED g.T.Valued.BITS _ _ c.whole.ensures.in_range c.whole-2.ensures.in_range)
