use Rattle.std.proofs.Common.{◌≡◌, ◌∙◌, sym, subst, true, Ok, Option}
use Rattle.fixed_machine.specs.declared.answer.Answer.TheVariants.{Bits}
use Rattle.fixed_machine.specs.declared.quick.Applied.{Applied}
use Rattle.fixed_machine.specs.Step.{cells_of, state_in}
use Rattle.fixed_machine.specs.inside.Quick.{applied_or_set, quick_number}
use Rattle.fixed_machine.specs.inside.Stepping.{IsAnswerOfLine, is_value}
use Rattle.fixed_machine.proofs.QuickSteps.{are_there, set_answer_quickly}
use Rattle.fixed_machine.proofs.quick_step.quick_answer.Goals as goal

pub returns-then-is_number : goal.returns-then-is_number
returns-then-is_number g c =
    let line = c.args.line in
    let cells = cells_of c.args.registers.now in
    let s = state_in c.args.word cells in
    let fits : is_value c.args.word (quick_number line) ≡ true = rw (← c.requires.signed, ← c.requires.bits) (sym c.is_number.ensures ∙ c.if-is_number.true) in
    let there = are_there c.args.registers.now line c.requires.dest c.requires.a c.requires.b c.requires.c in
    let set = set_answer_quickly c.args.word cells line.dest (quick_number line) c.args.number there.dest fits in
    subst (λ (o : Option Applied). IsAnswerOfLine s (applied_or_set o line) c.args.number (Ok (Bits (quick_number line)))) (sym c.in-None.is) set
