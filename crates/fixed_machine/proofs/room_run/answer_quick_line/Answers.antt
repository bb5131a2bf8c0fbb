use Rattle.std.proofs.Common.{◌≡◌, ◌+◌, ◌∙◌, ◌++◌, List, ℕ, Option, Ok, subst, ap, sym, arith, take, drop, length}
use Rattle.std.proofs.lemmas.List.{length-drop, length-append, length-take}
use Rattle.fixed_script.specs.Lines.{line_of_piece}
use Rattle.fixed_script.specs.Text.{ScriptLine}
use Rattle.fixed_machine.specs.Answers.{answer_text}
use Rattle.fixed_word.specs.Pieces.{pieces}
use Rattle.fixed_text.specs.inside.Ends.{after}
use Rattle.fixed_machine.specs.inside.Lines.{run_lines}
use Rattle.fixed_machine.specs.inside.Stepping.{whole_answer}
use Rattle.fixed_machine.specs.Step.{IsStepOfLine, state_in}
use Rattle.fixed_machine.specs.inside.QuickSteps.{fractions_in}
use Rattle.fixed_machine.proofs.Fractions.{step_fractions}
use Rattle.fixed_machine.proofs.Runs.{run_moves, move_short}
use Rattle.fixed_machine.proofs.room_run.answer_quick_line.Goals as goal

pub push-requires : goal.push-requires
push-requires g c =
    let s = state_in c.args.word c.args.room.now.registers in
    let end = c.in-Some.found.1 in
    let rest = c.args.rest.now in
    let new = c.step_quick_line.new.self.registers in
    let answer = whole_answer c.in-Some-step_quick_line.answer in
    let tells = subst (λ (o : Option ScriptLine). IsStepOfLine s o c.args.number (Ok answer) new) (sym c.in-Some.ensures.reads) c.in-Some-step_quick_line.ensures.some in
    let short = move_short s c.args.number (take end rest) answer new tells in
    omega (arith, short, length-take end rest, ap length c.in-Some-step_quick_line.ensures.kept.same_answers, c.in-Some-step_quick_line.ensures.kept.same_answer_room, c.requires.space, c.in-Some.ensures.within)

pub returns-in-Some-step_quick_line-clause-some : goal.returns-in-Some-step_quick_line-clause-some
returns-in-Some-step_quick_line-clause-some g c =
    let room = c.args.room.now in
    let s = state_in c.args.word room.registers in
    let end = c.in-Some.found.1 in
    let rest = c.args.rest.now in
    let new = c.step_quick_line.new.self.registers in
    let answer = whole_answer c.in-Some-step_quick_line.answer in
    let text = answer_text answer in
    let tells = subst (λ (o : Option ScriptLine). IsStepOfLine s o c.args.number (Ok answer) new) (sym c.in-Some.ensures.reads) c.in-Some-step_quick_line.ensures.some in
    let short = move_short s c.args.number (take end rest) answer new tells in
    let moves = run_moves room.answers c.args.word room.registers new c.args.number rest (take end rest) (drop end rest) answer c.in-Some.ensures.cut tells in
    let kept = c.in-Some-step_quick_line.ensures.kept in
    let answers : c.push.new.self.answers ≡ room.answers ++ text = c.push.ensures.answers ∙ ap (λ (a : List ℕ). a ++ text) kept.same_answers in
    record {
      some = c.in-Some.ensures.some;
      within = c.in-Some.ensures.within;
      run = sym (moves ∙ (λ i. after (sym answers i) (run_lines (state_in c.args.word (sym c.push.ensures.registers i)) (c.args.number + 1) (pieces (drop end rest)))));
      its_word = c.push.ensures.word ∙ kept.same_word ∙ c.requires.word;
      same_fractions = ap fractions_in c.push.ensures.registers ∙ step_fractions s (line_of_piece (take end rest)) c.args.number answer new tells;
      space = omega (arith, ap length answers, length-append room.answers text, short, length-take end rest, length-drop end rest, c.push.ensures.kept.same_answer_room, kept.same_answer_room, c.requires.space, c.in-Some.ensures.within);
    }
