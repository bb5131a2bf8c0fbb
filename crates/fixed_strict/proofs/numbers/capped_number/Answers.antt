use Rattle.std.proofs.Common.{ℤ, Some, ap, ◌∙◌}
use Rattle.fixed_word.proofs.Wraps.{width_pos}
use Rattle.fixed_strict.proofs.Caps.{capped_is}
use Rattle.fixed_strict.proofs.numbers.capped_number.Goals as goal

pub returns-then-BITS-lt32 : goal.returns-then-BITS-lt32
returns-then-BITS-lt32 g c = λ x least less h.
    let n = g.T.Valued.BITS in
    let greatest = rw (ap g.T.Valued.value c.MAX.ensures ∙ g.met.T.RawWord.max_law) at c.to_unsigned-then-BITS-lt32.ensures.value in
    ap (λ (z : ℤ). Some z) (capped_is g.T.RawWord.SIGNED n x _ _ _ _ _ (width_pos n g.met.T.RawWord.width_law) least less h.wrapped c.to_unsigned.ensures.value greatest c.lesser.ensures c.from_unsigned.ensures)
