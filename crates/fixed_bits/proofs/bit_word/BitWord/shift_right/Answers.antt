use Rattle.fixed_bits.proofs.Words.{right_same}
use Rattle.fixed_bits.proofs.bit_word.BitWord.shift_right.Goals as goal

pub returns : goal.returns
returns g c = rw (c.cut.ensures, c.floored.ensures) (right_same g.Self.RawWord.SIGNED g.Self.Valued.BITS c.args.by (g.Self.Valued.value c.args.self) _ g.met.Self.RawWord.width_law c.whole.ensures.value c.whole.ensures.in_range)
