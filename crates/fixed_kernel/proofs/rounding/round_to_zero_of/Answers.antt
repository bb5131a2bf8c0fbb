use Rattle.fixed_kernel.proofs.Truncated.{dropped}
use Rattle.fixed_kernel.proofs.rounding.round_to_zero_of.Goals as goal

pub returns : goal.returns
returns g c = dropped g.T.RawWord.SIGNED g.T.Valued.BITS c.args.frac c.is_below_zero.result c.magnitude.result (g.T.Valued.value c.args.a) _ g.met.T.RawWord.width_law c.requires c.magnitude.ensures.in_range c.is_below_zero.ensures.sign c.magnitude.ensures.magnitude c.residue.ensures
