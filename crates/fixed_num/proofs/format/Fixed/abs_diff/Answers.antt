use Rattle.fixed_num.proofs.Ranges.{distance_is}
use Rattle.fixed_num.proofs.format.Fixed.abs_diff.Goals as goal

pub returns : goal.returns
returns g c = distance_is g.T.RawWord.SIGNED _ g.T.Valued.BITS _ c.distance.result (g.T.Valued.value c.args.self.bits) (g.T.Valued.value c.args.other.bits) _ g.met.T.RawWord.width_law g.met.T.Word.unsigned_width_law g.met.T.Word.unsigned_sign_law c.distance.ensures.a_in_range c.distance.ensures.b_in_range c.distance.ensures.value c.residue.ensures
