use Rattle.std.proofs.Common.{ap, Ok, sym, subst, ℤ}
use Rattle.fixed_script.specs.Capped.{literal_value}
use Rattle.fixed_machine.specs.declared.answer.Answer.TheVariants.{Bits}
use Rattle.fixed_machine.specs.inside.Stepping.{IsAnswerOfLine, script_line_of}
use Rattle.fixed_machine.specs.Step.{cells_of, state_in}
use Rattle.fixed_machine.proofs.Causes.{PassesTests, set_small, set_tells}
use Rattle.fixed_machine.proofs.stepping.answer_past_tests.Goals as goal

pub number_of-requires : goal.number_of-requires
number_of-requires c = set_small (state_in c.args.word (cells_of c.args.registers.now)) c.in-Set.dest c.in-Set.literal (rw c.in-Set.is at c.requires.in_range)

pub returns-in-Set : goal.returns-in-Set
returns-in-Set c =
    let s = state_in c.args.word (cells_of c.args.registers.now) in
    let t : PassesTests s (script_line_of c.args.line.now) = record { offered = c.requires.offered; in_range = c.requires.in_range; one_fraction = c.requires.one_fraction } in
    subst (λ (x : ℤ). IsAnswerOfLine s (script_line_of c.args.line.now) c.args.number (Ok (Bits x))) (sym c.number_of.ensures) (set_tells s (script_line_of c.args.line.now) c.in-Set.dest (literal_value c.in-Set.literal) c.args.number (ap script_line_of c.in-Set.is) t)
