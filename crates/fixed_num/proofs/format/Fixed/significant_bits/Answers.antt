use Rattle.fixed_num.proofs.Ranges.{from_zero}
use Rattle.fixed_num.proofs.Sized.{size_least}
use Rattle.fixed_num.proofs.format.Fixed.significant_bits.Goals as goal

pub returns : goal.returns
returns g c = size_least c.bit_length.result c.magnitude.result (g.T.Valued.value c.args.self.bits) c.magnitude.ensures.magnitude (from_zero g.T.RawWord.SIGNED g.T.Valued.BITS (g.T.Valued.value c.args.self.bits) g.met.T.UnsignedWord.sign_law c.magnitude.ensures.in_range) c.bit_length.ensures.below c.bit_length.ensures.least
