use Rattle.fixed_machine.specs.Step.{cells_of, state_in}
use Rattle.fixed_machine.specs.inside.Stepping.{in_whole, script_line_of}
use Rattle.fixed_machine.proofs.Causes.{PassesTests, ready, applied_tells}
use Rattle.fixed_machine.proofs.stepping.answer_of_operation.Goals as goal

pub answer_in_word-requires : goal.answer_in_word-requires
answer_in_word-requires c =
    let s = state_in c.args.word (cells_of c.args.registers.now) in
    let t : PassesTests s (script_line_of c.args.line.now) = record { offered = c.requires.offered; in_range = c.requires.in_range; one_fraction = c.requires.one_fraction } in
    let r = ready s (script_line_of c.args.line.now) c.args.policy c.args.op c.args.rounding c.taken_by-taken.result c.requires.is t c.requires.cells c.taken_by-taken.ensures in
    record { offered = r.offered; a = r.cells.a; b = r.cells.b; c = r.cells.c }

pub taken_by-taken-requires : goal.taken_by-taken-requires
taken_by-taken-requires c = (c.args.word, c.requires.in_range)

pub returns : goal.returns
returns c =
    let s = state_in c.args.word (cells_of c.args.registers.now) in
    let line = script_line_of c.args.line.now in
    let t : PassesTests s line = record { offered = c.requires.offered; in_range = c.requires.in_range; one_fraction = c.requires.one_fraction } in
    applied_tells s line c.args.policy c.args.op c.args.rounding c.taken_by-taken.result c.args.number (in_whole c.answer_in_word.result) c.requires.is t c.taken_by-taken.ensures c.answer_in_word.ensures
