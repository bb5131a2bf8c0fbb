use Rattle.fixed_num.proofs.Wides.{wide_product}
use Rattle.fixed_num.proofs.format.Fixed.wide_mul.Goals as goal

pub returns : goal.returns
returns g c = wide_product g.T.RawWord.SIGNED _ g.T.Valued.BITS _ (g.T.Valued.value c.args.self.bits) (g.T.Valued.value c.args.rhs.bits) _ g.met.T.RawWord.width_law g.met.T.Narrow.double_width_law g.met.T.Narrow.double_sign_law c.product.ensures.a_in_range c.product.ensures.b_in_range c.product.ensures.value
