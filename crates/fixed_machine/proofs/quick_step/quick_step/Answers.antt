use Rattle.std.proofs.Common.{◌<◌, length, arith, sym, subst, ap}
use Rattle.std.specs.List.{All}
use Rattle.std.proofs.lemmas.List.{length-map}
use Rattle.fixed_machine.specs.Step.{IsCell, cell_of, cells_of, state_in}
use Rattle.fixed_machine.specs.inside.Quick.{script_line_of_quick}
use Rattle.fixed_machine.specs.inside.Stepping.{number_in, whole_answer}
use Rattle.fixed_machine.proofs.Causes.{stores, cells_stay, valued_bits, valued_flagged}
use Rattle.fixed_machine.proofs.quick_step.quick_step.Goals as goal

pub returns-in-Bits-clause-kept : goal.returns-in-Bits-clause-kept
returns-in-Bits-clause-kept g c =
    let x = number_in c.in-Bits.bits in
    let answer = whole_answer c.in-Some.answer in
    let s = stores (state_in c.args.word (cells_of c.args.registers.now)) (script_line_of_quick c.args.line) c.args.number answer c.in-Some.ensures in
    let there : c.args.line.dest < length (cells_of c.args.registers.now) = omega (arith, length-map c.args.registers.now cell_of, c.requires.dest) in
    subst (All (IsCell c.args.word)) (sym c.store.ensures) (cells_stay c.args.word (cells_of c.args.registers.now) c.args.line.dest x there c.requires.cells (valued_bits c.args.word answer x (ap whole_answer c.in-Bits.is) s.valued))

pub returns-in-Flagged-clause-kept : goal.returns-in-Flagged-clause-kept
returns-in-Flagged-clause-kept g c =
    let x = number_in c.in-Flagged.bits in
    let answer = whole_answer c.in-Some.answer in
    let s = stores (state_in c.args.word (cells_of c.args.registers.now)) (script_line_of_quick c.args.line) c.args.number answer c.in-Some.ensures in
    let there : c.args.line.dest < length (cells_of c.args.registers.now) = omega (arith, length-map c.args.registers.now cell_of, c.requires.dest) in
    subst (All (IsCell c.args.word)) (sym c.store-in-Flagged.ensures) (cells_stay c.args.word (cells_of c.args.registers.now) c.args.line.dest x there c.requires.cells (valued_flagged c.args.word answer x c.in-Flagged.field-1 (ap whole_answer c.in-Flagged.is) s.valued))
