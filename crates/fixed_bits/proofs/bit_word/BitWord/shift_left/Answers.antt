use Rattle.fixed_bits.proofs.Words.{left_room}
use Rattle.fixed_bits.proofs.bit_word.BitWord.shift_left.Goals as goal

pub scaled-requires-clause-room : goal.scaled-requires-clause-room
scaled-requires-clause-room g c = left_room g.Self.RawWord.SIGNED g.Self.Whole.Integer.SIGNED g.Self.Valued.BITS g.Self.Whole.Valued.BITS c.args.by _ _ g.met.Self.Arithmetic.whole_sign_law g.met.Self.Arithmetic.whole_width_law c.requires c.whole.ensures.value c.whole.ensures.in_range
