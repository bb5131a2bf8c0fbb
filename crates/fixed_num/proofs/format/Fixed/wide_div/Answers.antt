use Rattle.fixed_num.proofs.Wides.{wide_quotient}
use Rattle.fixed_num.proofs.format.Fixed.wide_div.Goals as goal

pub returns : goal.returns
returns g c = wide_quotient g.T.RawWord.SIGNED _ g.T.Valued.BITS _ c.BITS.result (g.T.Valued.value c.args.self.bits) (g.T.Valued.value c.args.rhs.bits) _ g.met.T.RawWord.width_law g.met.T.Narrow.double_width_law g.met.T.Narrow.double_sign_law c.BITS.ensures c.requires.divisor c.requires.fits c.quotient.ensures.a_in_range c.quotient.ensures.b_in_range c.quotient.ensures.value
