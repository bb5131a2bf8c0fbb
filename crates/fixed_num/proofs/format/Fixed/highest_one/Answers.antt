use Rattle.fixed_num.proofs.Sized.{highest_is}
use Rattle.fixed_num.proofs.format.Fixed.highest_one.Goals as goal

pub returns : goal.returns
returns g c = highest_is g.T.RawWord.SIGNED g.T.Valued.BITS c.magnitude-magnitude.result c.highest_power.result (g.T.Valued.value c.args.self.bits) _ g.met.T.RawWord.width_law g.met.T.UnsignedWord.sign_law c.magnitude-magnitude.ensures.in_range c.magnitude-magnitude.ensures.magnitude c.highest_power.ensures c.residue.ensures
