use Rattle.std.proofs.Common.{sym, arith}
use Rattle.fixed_script.proofs.NamesFirst.{op_front}
use Rattle.fixed_script.proofs.names.front_op_of.Goals as goal

pub returns : goal.returns
returns c = op_front c.args.bytes.now c.args.length c.in_ok-op.op (omega arith) (omega arith) (sym c.in_ok-op.ensures)
