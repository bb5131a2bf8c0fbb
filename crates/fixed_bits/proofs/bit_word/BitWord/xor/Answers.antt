use Rattle.std.proofs.Common.{◌∙◌}
use Rattle.fixed_bits.proofs.Bits.{xor_list}
use Rattle.fixed_bits.proofs.bit_word.BitWord.xor.Goals as goal

pub returns : goal.returns
returns g c = rw (c.pattern_of.ensures.digits, c.pattern_of-2.ensures.digits) (c.word_of.ensures ∙ xor_list g.Self.Valued.BITS c.pattern_of.result c.pattern_of-2.result)
