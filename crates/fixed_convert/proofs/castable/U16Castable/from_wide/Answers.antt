use Rattle.std.proofs.Common.{arith}
use Rattle.fixed_convert.proofs.Cuts.{cut_wide}
use Rattle.fixed_convert.proofs.castable.U16Castable.from_wide.Goals as goal

pub returns : goal.returns
returns c = cut_wide 16 c.args.number c.cast_unsigned.result c.ranges.number (omega arith) (omega arith) c.cast_unsigned.ensures
