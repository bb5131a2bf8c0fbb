use Rattle.fixed_bits.proofs.Bits.{rotated_is}
use Rattle.fixed_bits.proofs.pattern.rotated.Goals as goal

pub returns : goal.returns
returns c = rotated_is c.args.width c.args.by c.args.pattern c.requires.width c.requires.by c.requires.small
