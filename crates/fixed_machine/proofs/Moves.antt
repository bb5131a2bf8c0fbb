-- Moves of a room, one after another.
use Rattle.std.proofs.Common.{◌≡◌, ◌∙◌, ◌+◌, ◌*◌, ◌≤◌, ℕ, List, length, drop, subst, arith}
use Rattle.std.proofs.lemmas.List.{drop-drop, length-drop}
use Rattle.fixed_text.specs.declared.names.WordName.{WordName}
use Rattle.fixed_word.specs.Pieces.{pieces}
use Rattle.fixed_text.specs.Runs.{Run}
use Rattle.fixed_text.specs.inside.Ends.{after}
use Rattle.fixed_machine.specs.Machine.{State}
use Rattle.fixed_machine.specs.declared.cause.Cause.{Cause}
use Rattle.fixed_machine.specs.inside.Lines.{run_lines}
use Rattle.fixed_machine.specs.Rooms.{KeepsRoom, Space}
use Rattle.fixed_machine.specs.Step.{state_in}
use Rattle.fixed_machine.specs.inside.Moves.{HasMoved, HaveMoved}

pub kept_twice : (a b c : Space) → KeepsRoom a b → KeepsRoom b c → KeepsRoom a c
kept_twice a b c first second =
    record {
      same_register_room = second.same_register_room ∙ first.same_register_room;
      same_answer_room = second.same_answer_room ∙ first.same_answer_room;
    }

-- the run from a place in the lines
abbrev pub run_at : WordName → List ℕ → ℕ → ℕ → Space → Run State Cause
run_at word lines at number room = after room.answers (run_lines (state_in word room.registers) number (pieces (drop at lines)))

pub run_past : (word : WordName) (lines : List ℕ) (at end number : ℕ) (old new : Space) → HasMoved word number (drop at lines) end old new
    → run_at word lines (at + end) (number + 1) new ≡ run_at word lines at number old
run_past word lines at end number old new moved =
    subst (λ (rest : List ℕ). after new.answers (run_lines (state_in word new.registers) (number + 1) (pieces rest)) ≡ run_at word lines at number old) (drop-drop end at lines) moved.run

pub space_past : (word : WordName) (lines : List ℕ) (at end number : ℕ) (old new : Space) → HasMoved word number (drop at lines) end old new
    → length new.answers + 2 * length (drop (at + end) lines) ≤ new.answer_room
space_past word lines at end number old new moved =
    subst (λ (rest : List ℕ). length new.answers + 2 * length rest ≤ new.answer_room) (drop-drop end at lines) moved.space

-- one line more
pub moved_on : (word : WordName) (lines : List ℕ) (from first at number end : ℕ) (start old new : Space) → HaveMoved word lines from first at number start old → HasMoved word number (drop at lines) end old new
    → HaveMoved word lines from first (at + end) (number + 1) start new
moved_on word lines from first at number end start old new before moved =
    record {
      forward = omega (arith, before.forward);
      within = omega (arith, moved.within, before.within, length-drop at lines);
      count = omega (arith, moved.some, before.count);
      run = run_past word lines at end number old new moved ∙ before.run;
      its_word = moved.its_word;
      same_fractions = moved.same_fractions ∙ before.same_fractions;
      space = space_past word lines at end number old new moved;
    }
