use Rattle.std.proofs.Common.{◌≡◌, ◌+◌, ◌∙◌, ◌++◌, List, ℕ, ap, sym, arith, take, drop, length}
use Rattle.std.proofs.lemmas.List.{length-drop, length-append, length-take}
use Rattle.fixed_script.specs.Lines.{line_of_piece}
use Rattle.fixed_machine.specs.Answers.{answer_text}
use Rattle.fixed_word.specs.Pieces.{pieces}
use Rattle.fixed_text.specs.inside.Ends.{after}
use Rattle.fixed_machine.specs.inside.Lines.{run_lines}
use Rattle.fixed_machine.specs.inside.Stepping.{whole_answer}
use Rattle.fixed_machine.specs.Step.{state_in}
use Rattle.fixed_machine.specs.inside.QuickSteps.{fractions_in}
use Rattle.fixed_machine.proofs.Fractions.{step_fractions}
use Rattle.fixed_machine.proofs.Runs.{run_fault, run_moves, told_fault, move_short}
use Rattle.fixed_machine.proofs.room_run.answer_line.Goals as goal

pub push-requires : goal.push-requires
push-requires c =
    let s = state_in c.requires.word.0 c.args.room.now.registers in
    let tells = rw c.requires.word.1 at c.in-Ok.ensures.tells in
    let short = move_short s c.args.number (take c.piece_end-end.result c.args.rest.now) (whole_answer c.in-Ok.answer) c.step_piece.new.self.registers tells in
    omega (arith, short, length-take c.piece_end-end.result c.args.rest.now, ap length c.in-Ok.ensures.kept.same_answers, c.in-Ok.ensures.kept.same_answer_room, c.requires.space, c.piece_end-end.ensures.within)

pub returns-in-Ok-clause-ok : goal.returns-in-Ok-clause-ok
returns-in-Ok-clause-ok c = λ word is.
    let room = c.args.room.now in
    let end = c.piece_end-end.result in
    let rest = c.args.rest.now in
    let s = state_in word room.registers in
    let text = answer_text (whole_answer c.in-Ok.answer) in
    let tells = rw is at c.in-Ok.ensures.tells in
    let short = move_short s c.args.number (take end rest) (whole_answer c.in-Ok.answer) c.step_piece.new.self.registers tells in
    let moves = run_moves room.answers word room.registers c.step_piece.new.self.registers c.args.number rest (take end rest) (drop end rest) (whole_answer c.in-Ok.answer) c.piece_end-end.ensures.cut tells in
    let answers : c.push.new.self.answers ≡ room.answers ++ text = c.push.ensures.answers ∙ ap (λ (a : List ℕ). a ++ text) c.in-Ok.ensures.kept.same_answers in
    record {
      some = c.piece_end-end.ensures.some;
      within = c.piece_end-end.ensures.within;
      run = sym (moves ∙ (λ i. after (sym answers i) (run_lines (state_in word (sym c.push.ensures.registers i)) (c.args.number + 1) (pieces (drop end rest)))));
      its_word = c.push.ensures.word ∙ c.in-Ok.ensures.kept.same_word ∙ is;
      same_fractions = ap fractions_in c.push.ensures.registers ∙ step_fractions s (line_of_piece (take end rest)) c.args.number (whole_answer c.in-Ok.answer) c.step_piece.new.self.registers tells;
      space = omega (arith, ap length answers, length-append room.answers text, short, length-take end rest, length-drop end rest, c.push.ensures.kept.same_answer_room, c.in-Ok.ensures.kept.same_answer_room, c.requires.space);
    }

pub returns-in-Err-clause-err : goal.returns-in-Err-clause-err
returns-in-Err-clause-err c = λ word is.
    let room = c.args.room.now in
    let end = c.piece_end-end.result in
    let rest = c.args.rest.now in
    let s = state_in word room.registers in
    let tells = rw is at c.in-Err.ensures.tells in
    told_fault _ s c.args.number (take end rest) room.answers c.in-Err.cause c.step_piece.new.self
    (run_fault room.answers s c.args.number rest (take end rest) (pieces (drop end rest)) c.in-Err.cause c.step_piece.new.self.registers c.piece_end-end.ensures.cut tells)
    c.in-Err.ensures.kept.same_answers (c.in-Err.ensures.kept.same_word ∙ is) tells
