use Rattle.std.proofs.Common.{false}
use Rattle.fixed_machine.proofs.Cells.{signed_cell}
use Rattle.fixed_machine.proofs.stepping.store.Goals as goal

pub returns : goal.returns
returns c = signed_cell c.args.registers.now c.args.dest c.args.number.magnitude c.args.number.below_zero (record { magnitude = 0; fraction = 0; below_zero = false }) c.requires
