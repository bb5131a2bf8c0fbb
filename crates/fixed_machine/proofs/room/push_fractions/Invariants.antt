use Rattle.std.proofs.Common.{◌≡◌, ◌≤◌, ◌+◌, ◌++◌, length, vec_len, vec_capacity}
use Rattle.fixed_machine.specs.Meaning.{zeros, has_wide}
use Rattle.fixed_machine.specs.Step.{cells_of}
use Rattle.fixed_machine.proofs.room.push_fractions.Given as goal

abbrev pub invariant-loop-fraction : goal.invariant-loop-fraction
invariant-loop-fraction l = record {
  items : cells_of l.registers.items ++ zeros l.fractions ≡ cells_of l.fn.registers.items ++ zeros l.header.fractions;
  room : vec_len l.registers + length l.fractions ≤ vec_capacity l.registers;
  wide : has_wide l.header.word l.fractions ≡ has_wide l.header.word l.header.fractions;
  capacity : vec_capacity l.registers ≡ vec_capacity l.fn.registers;
}

abbrev pub decreases-loop-fraction : goal.decreases-loop-fraction
decreases-loop-fraction l = length l.fractions
