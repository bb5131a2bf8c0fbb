use Rattle.fixed_num.proofs.Logs.{unsigned_same}
use Rattle.fixed_num.proofs.logarithms.above_zero.Goals as goal

pub returns-clause-same : goal.returns-clause-same
returns-clause-same g c = unsigned_same g.T.RawWord.SIGNED g.T.Valued.BITS (g.T.Valued.value c.args.bits) (g.T.Unsigned.Valued.value c.to_unsigned.result) g.met.T.RawWord.width_law c.to_unsigned.ensures.in_range c.requires c.to_unsigned.ensures.value
