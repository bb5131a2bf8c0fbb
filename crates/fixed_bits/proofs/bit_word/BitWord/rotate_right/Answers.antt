use Rattle.fixed_word.proofs.Wraps.{width_pos}
use Rattle.fixed_bits.proofs.Bits.{rotate_right_list}
use Rattle.fixed_bits.proofs.bit_word.BitWord.rotate_right.Goals as goal

pub returns : goal.returns
returns g c = rw (c.pattern_of.ensures.digits, c.word_of.ensures) (rotate_right_list g.Self.Valued.BITS c.args.by c.pattern_of.result c.rotated.result c.BITS-width.result (width_pos g.Self.Valued.BITS g.met.Self.RawWord.width_law) c.pattern_of.ensures.small c.BITS-width.ensures c.rotated.ensures)
