use Rattle.std.proofs.Common.{◌≤◌, ◌<◌, ◌^◌, ◌∙◌}
use Rattle.fixed_bits.proofs.Words.{at_most_64, below_64}
use Rattle.fixed_bits.proofs.Bits.{not_list}
use Rattle.fixed_bits.proofs.bit_word.BitWord.not.Goals as goal

pub returns : goal.returns
returns g c =
    let w : g.Self.Valued.BITS ≤ 64 = at_most_64 g.Self.Valued.BITS g.met.Self.RawWord.width_law in
    let b : c.pattern_of.result < 2 ^ 64 = below_64 g.Self.Valued.BITS c.pattern_of.result w c.pattern_of.ensures.small in
    rw c.pattern_of.ensures.digits (c.word_of.ensures ∙ not_list g.Self.Valued.BITS c.pattern_of.result w b)
