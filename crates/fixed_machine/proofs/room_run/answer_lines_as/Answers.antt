use Rattle.std.proofs.Common.{◌∙◌, List, ℕ, ap, sym, subst, arith, refl, drop}
use Rattle.std.proofs.lemmas.List.{drop_all, length-drop, take_rest}
use Rattle.fixed_word.specs.Pieces.{pieces}
use Rattle.fixed_text.specs.inside.Ends.{after}
use Rattle.fixed_machine.specs.inside.Lines.{run_lines}
use Rattle.fixed_machine.specs.inside.Moves.{HasMoved}
use Rattle.fixed_machine.specs.inside.QuickSteps.{AreEqual}
use Rattle.fixed_machine.proofs.Moves.{kept_twice, run_past, space_past}
use Rattle.fixed_machine.specs.Step.{state_in}
use Rattle.fixed_machine.proofs.Runs.{run_ends, told_end}
use Rattle.fixed_machine.proofs.room_run.answer_lines_as.Goals as goal

pub loop-at-init : goal.loop-at-init
loop-at-init g c = record { within = omega arith; word = c.requires.word; run = refl; space = c.requires.space; kept = record { same_register_room = refl; same_answer_room = refl }; count = omega arith; same_fractions = refl }

pub answer_quick_lines-requires-clause-signed : goal.answer_quick_lines-requires-clause-signed
answer_quick_lines-requires-clause-signed g c = c.requires.signed

pub answer_quick_lines-requires-clause-bits : goal.answer_quick_lines-requires-clause-bits
answer_quick_lines-requires-clause-bits g c = c.requires.bits

pub answer_quick_lines-requires-clause-within : goal.answer_quick_lines-requires-clause-within
answer_quick_lines-requires-clause-within g c = c.loop-at.invariant.within

pub answer_quick_lines-requires-clause-number : goal.answer_quick_lines-requires-clause-number
answer_quick_lines-requires-clause-number g c = c.loop-at.invariant.count

pub answer_quick_lines-requires-clause-word : goal.answer_quick_lines-requires-clause-word
answer_quick_lines-requires-clause-word g c = c.loop-at.invariant.word

pub answer_quick_lines-requires-clause-one_fraction : goal.answer_quick_lines-requires-clause-one_fraction
answer_quick_lines-requires-clause-one_fraction g c = λ one. subst AreEqual (sym c.loop-at.invariant.same_fractions) (c.has_one_fraction-one_fraction.ensures one)

pub answer_quick_lines-requires-clause-space : goal.answer_quick_lines-requires-clause-space
answer_quick_lines-requires-clause-space g c = c.loop-at.invariant.space

pub answer_line-requires-clause-word : goal.answer_line-requires-clause-word
answer_line-requires-clause-word g c = (c.args.word, c.answer_quick_lines.ensures.moved.its_word)

pub answer_line-requires-clause-space : goal.answer_line-requires-clause-space
answer_line-requires-clause-space g c = simp take_rest c.answer_quick_lines.ensures.moved.space

pub returns-clause-kept : goal.returns-clause-kept
returns-clause-kept g c = c.loop-at.invariant.kept

pub returns-clause-tells : goal.returns-clause-tells
returns-clause-tells g c =
    let room = c.loop-at.room in
    let s = state_in c.args.word room.registers in
    let k = c.loop-at.number in
    told_end _ s room.answers room
    (sym c.loop-at.invariant.run ∙ ap (λ (ys : List ℕ). after room.answers (run_lines s k (pieces ys))) (drop_all c.loop-at.at c.args.lines.now (omega (arith, c.loop-at-test.false))) ∙ run_ends room.answers s k)
    refl c.loop-at.invariant.word refl

pub loop-at-preserved-then-at-lines : goal.loop-at-preserved-then-at-lines
loop-at-preserved-then-at-lines g c =
    let lines = c.args.lines.now in
    let at = c.answer_quick_lines.result.0 in
    let number = c.answer_quick_lines.result.1 in
    let quick = c.answer_quick_lines.new.room in
    let new = c.answer_line.new.room in
    let before = c.answer_quick_lines.ensures.moved in
    let moved : HasMoved c.args.word number (drop at lines) c.in-Ok.end quick new = simp take_rest at (c.in-Ok.ensures.ok c.args.word before.its_word) in
    record {
      within = omega (arith, moved.within, before.within, length-drop at lines);
      word = moved.its_word;
      run = run_past c.args.word lines at c.in-Ok.end number quick new moved ∙ before.run ∙ c.loop-at.invariant.run;
      space = space_past c.args.word lines at c.in-Ok.end number quick new moved;
      kept = kept_twice _ _ _ c.loop-at.invariant.kept (kept_twice _ _ _ c.answer_quick_lines.ensures.kept c.in-Ok.ensures.kept);
      count = omega (arith, moved.some, before.count, c.loop-at.invariant.count);
      same_fractions = moved.same_fractions ∙ before.same_fractions ∙ c.loop-at.invariant.same_fractions;
    }

pub loop-at-preserved : goal.loop-at-preserved
loop-at-preserved g c =
    let moved = c.answer_quick_lines.ensures.moved in
    record {
      within = moved.within;
      word = moved.its_word;
      run = moved.run ∙ c.loop-at.invariant.run;
      space = moved.space;
      kept = kept_twice _ _ _ c.loop-at.invariant.kept c.answer_quick_lines.ensures.kept;
      count = omega (arith, moved.count, c.loop-at.invariant.count);
      same_fractions = moved.same_fractions ∙ c.loop-at.invariant.same_fractions;
    }
