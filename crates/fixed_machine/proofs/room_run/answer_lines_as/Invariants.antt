use Rattle.std.proofs.Common.{◌≡◌, ◌≤◌, ◌+◌, ◌*◌, ◌-◌, length, drop, Some}
use Rattle.fixed_word.specs.Pieces.{pieces}
use Rattle.fixed_text.specs.inside.Ends.{after}
use Rattle.fixed_machine.specs.inside.Lines.{run_lines}
use Rattle.fixed_machine.specs.inside.QuickSteps.{fractions_in}
use Rattle.fixed_machine.specs.Step.{state_in}
use Rattle.fixed_machine.specs.Rooms.{KeepsRoom}
use Rattle.fixed_machine.proofs.room_run.answer_lines_as.Given as goal

-- the run from here, after the answers so far, is the run of all
abbrev pub invariant-loop-at : goal.invariant-loop-at
invariant-loop-at g l =
    record {
      within : l.at ≤ length l.lines;
      word : l.room.word ≡ Some l.fn.word;
      run : after l.room.answers (run_lines (state_in l.fn.word l.room.registers) l.number (pieces (drop l.at l.lines))) ≡ after l.fn.room.answers (run_lines (state_in l.fn.word l.fn.room.registers) 2 (pieces l.lines));
      space : length l.room.answers + 2 * length (drop l.at l.lines) ≤ l.room.answer_room;
      kept : KeepsRoom l.fn.room l.room;
      count : l.number ≤ l.at + 2;
      same_fractions : fractions_in l.room.registers ≡ fractions_in l.fn.room.registers;
    }

abbrev pub decreases-loop-at : goal.decreases-loop-at
decreases-loop-at g l = length l.lines - l.at
