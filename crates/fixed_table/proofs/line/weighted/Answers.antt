use Rattle.std.proofs.Common.{pos, refl}
use Rattle.fixed_word.proofs.Wraps.{width_pos, wrap_same}
use Rattle.fixed_kernel.proofs.WholeRoom.{product_room}
use Rattle.fixed_table.proofs.Weights.{weight_fits}
use Rattle.fixed_table.proofs.line.weighted.Goals as goal

pub times-requires : goal.times-requires
times-requires g c =
    let n = g.T.Valued.BITS in
    product_room g.T.RawWord.SIGNED g.T.Whole.Integer.SIGNED n g.T.Whole.Valued.BITS _ _ _ _ g.met.T.Arithmetic.whole_sign_law (width_pos n g.met.T.RawWord.width_law) g.met.T.Arithmetic.whole_width_law c.whole.ensures.value c.whole-2.ensures.value c.whole.ensures.in_range c.whole-2.ensures.in_range

pub returns-clause-product : goal.returns-clause-product
returns-clause-product g c =
    let n = g.T.Valued.BITS in
    let some = width_pos n g.met.T.RawWord.width_law in
    let kept = wrap_same g.T.RawWord.SIGNED n (pos c.args.weight) some (weight_fits g.T.RawWord.SIGNED n c.args.weight some c.requires) in
    rw (c.times.ensures, c.whole.ensures.value, c.whole-2.ensures.value, c.residue-factor.ensures, kept) refl
