use Rattle.fixed_num.proofs.Wides.{quotient_is}
use Rattle.fixed_num.proofs.wide.quotient.Goals as goal

pub returns-clause-value : goal.returns-clause-value
returns-clause-value g c = quotient_is g.R.RawWord.SIGNED g.R.Valued.BITS c.is_below_zero.result c.is_below_zero-2.result c.magnitude.result c.magnitude-2.result c.args.by (g.A.Valued.value c.args.a) (g.B.Valued.value c.args.b) _ c.is_below_zero.ensures.sign c.magnitude.ensures.magnitude c.magnitude.type_inv c.is_below_zero-2.ensures.sign c.magnitude-2.ensures.magnitude c.requires.divisor c.requires.by c.residue.ensures
