use Rattle.std.proofs.Common.{refl}
use Rattle.fixed_num.proofs.Sized.{signed_above, signed_below}
use Rattle.fixed_num.proofs.format.Fixed.signed_bits.Goals as goal

pub returns-then-is_below_zero : goal.returns-then-is_below_zero
returns-then-is_below_zero g c = signed_below c.bit_length.result c.magnitude.result _ (g.T.Valued.value c.args.self.bits) c.if-is_below_zero.ensures.sign refl c.magnitude.ensures.magnitude c.bit_length.ensures.below c.bit_length.ensures.least

pub returns-else-is_below_zero : goal.returns-else-is_below_zero
returns-else-is_below_zero g c = signed_above c.bit_length-else-is_below_zero.result c.magnitude-else-is_below_zero.result _ (g.T.Valued.value c.args.self.bits) c.if-is_below_zero.ensures.sign refl c.magnitude-else-is_below_zero.ensures.magnitude c.bit_length-else-is_below_zero.ensures.below c.bit_length-else-is_below_zero.ensures.least
