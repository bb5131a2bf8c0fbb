use Rattle.std.proofs.Common.{◌≡◌, ◌^◌, ◌*ℤ◌, pos, arith}
use Rattle.std.proofs.lemmas.Int.{ints}
use Rattle.fixed_word.proofs.Wraps.{width_pos}
use Rattle.fixed_kernel.proofs.Kept.{euclid_in, euclid_moved_in}
use Rattle.fixed_kernel.proofs.quotients.div_euclid_short.Goals as goal

pub euclid_quotient-requires-clause-room : goal.euclid_quotient-requires-clause-room
euclid_quotient-requires-clause-room g c =
    let n = g.T.Valued.BITS in
    let b = g.T.Valued.value c.args.b in
    let e : g.T.Whole.Valued.value c.whole-2.result ≡ b *ℤ pos (2 ^ 0) = omega (arith, ints, c.whole-2.ensures.value) in
    euclid_in g.T.RawWord.SIGNED g.T.Whole.Integer.SIGNED n g.T.Whole.Valued.BITS 0 (g.T.Valued.value c.args.a) _ b _ g.met.T.Arithmetic.whole_sign_law (width_pos n g.met.T.RawWord.width_law) g.met.T.Arithmetic.whole_width_law c.whole.ensures.value e c.whole.ensures.in_range c.whole-2.ensures.in_range

pub scaled-requires-clause-room : goal.scaled-requires-clause-room
scaled-requires-clause-room g c =
    let n = g.T.Valued.BITS in
    euclid_moved_in g.T.RawWord.SIGNED g.T.Whole.Integer.SIGNED n g.T.Whole.Valued.BITS c.args.frac _ _ _ _ _ g.met.T.Arithmetic.whole_sign_law (width_pos n g.met.T.RawWord.width_law) g.met.T.Arithmetic.whole_width_law c.requires.frac c.whole.ensures.value c.whole-2.ensures.value c.whole.ensures.in_range c.whole-2.ensures.in_range c.euclid_quotient.ensures
