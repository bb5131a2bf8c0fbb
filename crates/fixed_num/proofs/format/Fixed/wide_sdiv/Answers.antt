use Rattle.std.proofs.Common.{ℕ, ◌-◌, ap, ◌∙◌}
use Rattle.fixed_num.proofs.Wides.{wide_half_quotient}
use Rattle.fixed_num.proofs.format.Fixed.wide_sdiv.Goals as goal

pub returns : goal.returns
returns g c = wide_half_quotient g.T.RawWord.SIGNED _ g.T.Valued.BITS _ _ (g.T.Valued.value c.args.self.bits) (g.T.Valued.value c.args.rhs.bits) _ g.met.T.RawWord.width_law g.met.T.Narrow.double_width_law (g.met.T.Narrow.double_sign_law ∙ g.met.T.SignedWord.sign_law) (ap (λ (n : ℕ). n - 1) c.BITS.ensures) c.requires.divisor c.quotient.ensures.a_in_range c.quotient.ensures.value
