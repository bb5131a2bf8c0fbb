use Rattle.std.proofs.Common.{◌<◌, ap, length, arith, sym, subst}
use Rattle.std.specs.List.{All}
use Rattle.std.proofs.lemmas.List.{length-map}
use Rattle.fixed_machine.specs.Step.{IsCell, cell_of, cells_of, state_in}
use Rattle.fixed_machine.specs.inside.Stepping.{number_in, script_line_of, whole_answer}
use Rattle.fixed_machine.proofs.Causes.{stores, cells_stay, valued_bits, valued_flagged}
use Rattle.fixed_machine.proofs.stepping.step_registers.Goals as goal

pub store-requires : goal.store-requires
store-requires c =
    let s = stores (state_in c.args.word (cells_of c.args.registers.now)) (script_line_of c.args.line.now) c.args.number (whole_answer c.in-Ok.answer) c.in-Ok.ensures in
    omega (arith, s.there, c.destination.ensures, length-map c.args.registers.now cell_of)

pub store-requires-in-Flagged : goal.store-requires-in-Flagged
store-requires-in-Flagged c =
    let s = stores (state_in c.args.word (cells_of c.args.registers.now)) (script_line_of c.args.line.now) c.args.number (whole_answer c.in-Ok.answer) c.in-Ok.ensures in
    omega (arith, s.there, c.destination-in-Flagged.ensures, length-map c.args.registers.now cell_of)

pub overflow_cast-destination : goal.overflow_cast-destination
overflow_cast-destination c =
    let s = stores (state_in c.args.word (cells_of c.args.registers.now)) (script_line_of c.args.line.now) c.args.number (whole_answer c.in-Ok.answer) c.in-Ok.ensures in
    omega (arith, s.there, c.destination.ensures, length-map c.args.registers.now cell_of)

pub overflow_cast-destination-in-Flagged : goal.overflow_cast-destination-in-Flagged
overflow_cast-destination-in-Flagged c =
    let s = stores (state_in c.args.word (cells_of c.args.registers.now)) (script_line_of c.args.line.now) c.args.number (whole_answer c.in-Ok.answer) c.in-Ok.ensures in
    omega (arith, s.there, c.destination-in-Flagged.ensures, length-map c.args.registers.now cell_of)

pub returns-in-Bits-clause-kept : goal.returns-in-Bits-clause-kept
returns-in-Bits-clause-kept c =
    let answer = whole_answer c.in-Ok.answer in
    let s = stores (state_in c.args.word (cells_of c.args.registers.now)) (script_line_of c.args.line.now) c.args.number answer c.in-Ok.ensures in
    let there : c.destination.result < length (cells_of c.args.registers.now) = rw c.destination.ensures s.there in
    subst (All (IsCell c.args.word)) (sym c.store.ensures) (cells_stay c.args.word (cells_of c.args.registers.now) c.destination.result (number_in c.in-Bits.bits) there c.requires (valued_bits c.args.word answer (number_in c.in-Bits.bits) (ap whole_answer c.in-Bits.is) s.valued))

pub returns-in-Flagged-clause-kept : goal.returns-in-Flagged-clause-kept
returns-in-Flagged-clause-kept c =
    let answer = whole_answer c.in-Ok.answer in
    let s = stores (state_in c.args.word (cells_of c.args.registers.now)) (script_line_of c.args.line.now) c.args.number answer c.in-Ok.ensures in
    let there : c.destination-in-Flagged.result < length (cells_of c.args.registers.now) = rw c.destination-in-Flagged.ensures s.there in
    subst (All (IsCell c.args.word)) (sym c.store-in-Flagged.ensures) (cells_stay c.args.word (cells_of c.args.registers.now) c.destination-in-Flagged.result (number_in c.in-Flagged.bits) there c.requires (valued_flagged c.args.word answer (number_in c.in-Flagged.bits) c.in-Flagged.field-1 (ap whole_answer c.in-Flagged.is) s.valued))
