use Rattle.fixed_num.proofs.Counts.{trailing_flips}
use Rattle.fixed_num.proofs.format.Fixed.trailing_ones.Goals as goal

pub returns : goal.returns
returns g c = trailing_flips g.T.Valued.BITS _ (g.T.Valued.value c.args.self.bits) _ c.not.ensures c.trailing_zeros.ensures
