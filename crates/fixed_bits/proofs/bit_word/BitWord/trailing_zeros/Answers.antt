use Rattle.std.proofs.Common.{◌≤◌}
use Rattle.fixed_bits.proofs.Words.{at_most_64}
use Rattle.fixed_bits.proofs.Counts.{trailing_list}
use Rattle.fixed_bits.proofs.bit_word.BitWord.trailing_zeros.Goals as goal

pub returns : goal.returns
returns g c =
    let w : g.Self.Valued.BITS ≤ 64 = at_most_64 g.Self.Valued.BITS g.met.Self.RawWord.width_law in
    rw (c.pattern_of.ensures.digits, c.min.ensures, c.BITS.ensures) (trailing_list g.Self.Valued.BITS c.pattern_of.result w)
