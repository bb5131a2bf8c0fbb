use Rattle.fixed_machine.specs.Step.{cells_of}
use Rattle.fixed_machine.proofs.Fractions.{all_matched}
use Rattle.fixed_machine.proofs.QuickSteps.{are_there}
use Rattle.fixed_machine.proofs.quick_step.is_matched.Goals as goal

pub returns-then-one_fraction : goal.returns-then-one_fraction
returns-then-one_fraction c = λ same word.
    let there = are_there c.args.registers.now c.args.line c.requires.dest c.requires.a c.requires.b c.requires.c in
    all_matched word (cells_of c.args.registers.now) c.args.line c.args.applied.policy c.args.applied.op (c.requires.one_fraction c.if-one_fraction.true) there
