use Rattle.fixed_num.proofs.Ranges.{size_is}
use Rattle.fixed_num.proofs.format.Fixed.unsigned_abs.Goals as goal

pub returns : goal.returns
returns g c = size_is g.T.RawWord.SIGNED _ g.T.Valued.BITS _ c.magnitude.result (g.T.Valued.value c.args.self.bits) _ g.met.T.RawWord.width_law g.met.T.Word.unsigned_width_law g.met.T.Word.unsigned_sign_law c.magnitude.ensures.in_range c.magnitude.ensures.magnitude c.residue.ensures
