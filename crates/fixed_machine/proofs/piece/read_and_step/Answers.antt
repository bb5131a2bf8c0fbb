use Rattle.std.proofs.Common.{◌≤◌, ◌^◌, length, arith, sym, subst, Option}
use Rattle.std.proofs.lemmas.List.{length-map}
use Rattle.fixed_script.specs.Text.{ScriptLine}
use Rattle.fixed_machine.specs.Step.{IsStepOfLine, cell_of, cells_of, state_in}
use Rattle.fixed_machine.specs.inside.Stepping.{in_whole}
use Rattle.fixed_machine.proofs.Caps.{step_capped}
use Rattle.fixed_machine.proofs.piece.read_and_step.Goals as goal

pub returns-in-Some-clause-tells : goal.returns-in-Some-clause-tells
returns-in-Some-clause-tells c =
    let s = state_in c.args.word (cells_of c.args.registers.now) in
    let few : length c.args.registers.now ≤ 2 ^ 64 = omega arith in
    let all : length (cells_of c.args.registers.now) ≤ 2 ^ 64 = omega (arith, length-map c.args.registers.now cell_of) in
    let l = c.in-Some.ensures in
    let after = cells_of c.step_registers.new.registers in
    subst (λ (o : Option ScriptLine). IsStepOfLine s o c.args.number (in_whole c.step_registers.result) after) (sym l.1) (step_capped s l.0 c.args.number (in_whole c.step_registers.result) after _ all l.2 c.step_registers.ensures.tells)
