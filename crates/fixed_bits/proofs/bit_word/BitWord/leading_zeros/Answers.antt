use Rattle.std.proofs.Common.{◌≤◌}
use Rattle.fixed_bits.proofs.Words.{at_most_64}
use Rattle.fixed_bits.proofs.Counts.{leading_list, leading_room}
use Rattle.fixed_bits.proofs.bit_word.BitWord.leading_zeros.Goals as goal

pub overflow_sub-result-2 : goal.overflow_sub-result-2
overflow_sub-result-2 g c =
    let w : g.Self.Valued.BITS ≤ 64 = at_most_64 g.Self.Valued.BITS g.met.Self.RawWord.width_law in
    rw c.BITS.ensures (leading_room g.Self.Valued.BITS c.pattern_of.result w c.pattern_of.ensures.small)

pub returns : goal.returns
returns g c =
    let w : g.Self.Valued.BITS ≤ 64 = at_most_64 g.Self.Valued.BITS g.met.Self.RawWord.width_law in
    rw (c.pattern_of.ensures.digits, c.BITS.ensures) (leading_list g.Self.Valued.BITS c.pattern_of.result w c.pattern_of.ensures.small)
