use Rattle.fixed_machine.specs.Step.{cells_of, state_in}
use Rattle.fixed_machine.proofs.Causes.{literal_small}
use Rattle.fixed_machine.proofs.stepping.taken_by.Goals as goal

pub integer_of-requires : goal.integer_of-requires
integer_of-requires c = literal_small (state_in c.requires.0 (cells_of c.args.registers.now)) c.in-Int.dest c.in-Int.policy c.in-Int.op c.in-Int.a c.in-Int.literal c.in-Int.rounding (rw c.in-Int.is at c.requires.1)
