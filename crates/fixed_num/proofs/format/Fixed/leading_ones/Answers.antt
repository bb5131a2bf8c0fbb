use Rattle.fixed_num.proofs.Counts.{leading_flips}
use Rattle.fixed_num.proofs.format.Fixed.leading_ones.Goals as goal

pub returns : goal.returns
returns g c = leading_flips g.T.Valued.BITS _ (g.T.Valued.value c.args.self.bits) _ c.not.ensures c.leading_zeros.ensures
