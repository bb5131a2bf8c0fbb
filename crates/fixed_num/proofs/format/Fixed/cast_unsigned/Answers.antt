use Rattle.std.proofs.Common.{false}
use Rattle.fixed_word.proofs.Wraps.{width_pos}
use Rattle.fixed_num.proofs.Ranges.{bits_wrap}
use Rattle.fixed_num.proofs.format.Fixed.cast_unsigned.Goals as goal

pub returns-clause-bits : goal.returns-clause-bits
returns-clause-bits g c = bits_wrap false g.T.Valued.BITS _ (g.T.Valued.value c.args.self.bits) (width_pos g.T.Valued.BITS g.met.T.RawWord.width_law) c.to_unsigned.ensures.value
