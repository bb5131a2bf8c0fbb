use Rattle.fixed_word.proofs.Wraps.{width_pos}
use Rattle.fixed_elementary.proofs.Raised.{exp2_is}
use Rattle.fixed_elementary.proofs.exponentials.exp2_of.Goals as goal

pub returns-in-Some : goal.returns-in-Some
returns-in-Some g c =
    let n = g.T.Valued.BITS in
    let u = c.power_of.ensures in
    exp2_is g.T.Valued.value g.T.RawWord.SIGNED n _ c.args.frac c.in-Some.exponent u.0 _ _ _ c.BITS.ensures (width_pos n g.met.T.RawWord.width_law) c.in-Some.ensures u.1 u.2 c.outcome_of_magnitude.ensures
