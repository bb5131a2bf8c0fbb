use Rattle.std.proofs.Common.{◌*ℤ◌, ◌^◌, pos, ap, ◌∙◌, arith}
use Rattle.fixed_word.specs.Format.{wrap}
use Rattle.fixed_word.proofs.Wraps.{width_pos}
use Rattle.fixed_kernel.proofs.WholeRoom.{scaled_in}
use Rattle.fixed_num.proofs.Ranges.{all_shifted_out}
use Rattle.fixed_num.proofs.format.Fixed.unbounded_shl.Goals as goal

pub returns-then-rhs-BITS : goal.returns-then-rhs-BITS
returns-then-rhs-BITS g c = all_shifted_out g.T.RawWord.SIGNED g.T.Valued.BITS c.args.rhs c.BITS.result (g.T.Valued.value c.args.self.bits) _ g.met.T.RawWord.width_law c.BITS.ensures c.if-rhs-BITS.true (ap g.T.Valued.value c.ZERO.ensures ∙ g.met.T.RawWord.zero_law)

pub scaled-requires-clause-room : goal.scaled-requires-clause-room
scaled-requires-clause-room g c =
    let n = g.T.Valued.BITS in
    scaled_in g.T.RawWord.SIGNED g.T.Whole.Integer.SIGNED n g.T.Whole.Valued.BITS c.args.rhs (g.T.Valued.value c.args.self.bits) _ g.met.T.Arithmetic.whole_sign_law (width_pos n g.met.T.RawWord.width_law) g.met.T.Arithmetic.whole_width_law (omega (arith, c.BITS.ensures, c.if-rhs-BITS.false)) c.whole.ensures.value c.whole.ensures.in_range

pub returns : goal.returns
returns g c = c.cut.ensures ∙ ap (wrap g.T.RawWord.SIGNED g.T.Valued.BITS) (c.scaled.ensures ∙ ap (λ x. x *ℤ pos (2 ^ c.args.rhs)) c.whole.ensures.value)
