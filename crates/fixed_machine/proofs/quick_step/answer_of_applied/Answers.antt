use Rattle.std.proofs.Common.{◌≡◌, true, false, get_or, rules}
use Rattle.fixed_script.specs.Offered.{is_offered}
use Rattle.fixed_machine.specs.Step.{cell_of, cells_of}
use Rattle.fixed_machine.specs.inside.Stepping.{whole_answer}
use Rattle.fixed_script.specs.Names.{arity}
use Rattle.fixed_text.specs.Words.{is_signed}
use Rattle.fixed_machine.proofs.QuickSteps.{applied_answer, are_there, held_cell, held_is, in_format, second_cell, second_in_word}
use Rattle.fixed_machine.proofs.quick_step.answer_of_applied.Goals as goal

pub answer_as-requires-clause-a : goal.answer_as-requires-clause-a
answer_as-requires-clause-a g c =
    in_format g.T.RawWord.SIGNED g.T.Valued.BITS c.args.word _ c.requires.signed c.requires.bits (held_cell c.args.word c.args.registers.now c.args.line.a (record { magnitude = 0; fraction = 0; below_zero = false }) c.requires.cells c.requires.a)

pub answer_as-requires-clause-b : goal.answer_as-requires-clause-b
answer_as-requires-clause-b g c =
    let second = second_in_word g.T.RawWord.SIGNED g.T.Valued.BITS c.args.word (cells_of c.args.registers.now) c.args.line (arity c.args.applied.op) (cell_of c.in-Some.second) c.requires.signed c.requires.bits c.in-Some.ensures in
    in_format g.T.RawWord.SIGNED g.T.Valued.BITS c.args.word _ c.requires.signed c.requires.bits (second_cell c.args.word (cells_of c.args.registers.now) c.args.line (arity c.args.applied.op) (cell_of c.in-Some.second) c.requires.cells second)

pub answer_as-requires-clause-c : goal.answer_as-requires-clause-c
answer_as-requires-clause-c g c =
    in_format g.T.RawWord.SIGNED g.T.Valued.BITS c.args.word _ c.requires.signed c.requires.bits (held_cell c.args.word c.args.registers.now c.args.line.c (record { magnitude = 0; fraction = 0; below_zero = false }) c.requires.cells c.requires.c)

pub returns : goal.returns
returns g c =
    let registers = c.args.registers.now in
    let line = c.args.line in
    let op = c.args.applied.op in
    let offered : is_offered (is_signed c.args.word) c.args.applied.policy op ≡ true = search rules in
    let matches : c.is_matched.result ≡ true = search rules in
    let second = second_in_word g.T.RawWord.SIGNED g.T.Valued.BITS c.args.word (cells_of registers) line (arity op) (cell_of c.in-Some.second) c.requires.signed c.requires.bits c.in-Some.ensures in
    applied_answer g.T.RawWord.SIGNED g.T.Valued.BITS c.args.word (cells_of registers) line c.args.applied.policy op
    (record { a = get_or registers line.a (record { magnitude = 0; fraction = 0; below_zero = false }); b = c.in-Some.second; c = get_or registers line.c (record { magnitude = 0; fraction = 0; below_zero = false }) })
    c.args.number (whole_answer c.in-Ok.answer) c.requires.signed c.requires.bits (are_there registers line c.requires.dest c.requires.a c.requires.b c.requires.c) offered (c.is_matched.ensures matches c.args.word)
    (held_is registers line.a (record { magnitude = 0; fraction = 0; below_zero = false }) c.requires.a) second (held_is registers line.c (record { magnitude = 0; fraction = 0; below_zero = false }) c.requires.c) c.in-Ok.ensures
