use Rattle.std.proofs.Common.{ℕ, ◌≤◌, ◌-◌, ◌/◌, ◌^◌, ap, ◌∙◌}
use Rattle.fixed_bits.proofs.Words.{at_most_64}
use Rattle.fixed_bits.proofs.Bits.{reverse_list}
use Rattle.fixed_bits.proofs.bit_word.BitWord.reverse_bits.Goals as goal

pub returns : goal.returns
returns g c =
    let w : g.Self.Valued.BITS ≤ 64 = at_most_64 g.Self.Valued.BITS g.met.Self.RawWord.width_law in
    rw c.pattern_of.ensures.digits (c.word_of.ensures ∙ rw c.BITS.ensures (reverse_list g.Self.Valued.BITS c.pattern_of.result _ w (ap (λ (x : ℕ). x / 2 ^ (64 - g.Self.Valued.BITS)) c.reverse_bits.ensures)))
