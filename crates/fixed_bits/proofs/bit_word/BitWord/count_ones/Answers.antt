use Rattle.fixed_bits.proofs.Counts.{ones_list}
use Rattle.fixed_bits.proofs.bit_word.BitWord.count_ones.Goals as goal

pub returns : goal.returns
returns g c = rw c.pattern_of.ensures.digits (ones_list g.Self.Valued.BITS c.pattern_of.result c.pattern_of.ensures.small)
