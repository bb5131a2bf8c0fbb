-- What one line of a script does to a room.
use Rattle.std.specs.Prelude.{◌≡◌, ℕ, ◌≤◌, ◌<◌, ◌*◌, ◌+◌, List, length, drop, Some}
use Rattle.fixed_text.specs.declared.names.WordName.{WordName}
use Rattle.fixed_word.specs.Pieces.{pieces}
use Rattle.fixed_text.specs.inside.Ends.{after}
use Rattle.fixed_machine.specs.inside.Lines.{run_lines}
use Rattle.fixed_machine.specs.inside.QuickSteps.{fractions_in}
use Rattle.fixed_machine.specs.Step.{state_in}
use Rattle.fixed_machine.specs.Rooms.{Space}

-- The first line of the rest moved, and its text was added: the run from there, after the answers so far, is the run from before.
pub record HasMoved (word : WordName) (k : ℕ) (rest : List ℕ) (end : ℕ) (old new : Space) : Type 0 where
  pub some : 0 < end
  pub within : end ≤ length rest
  pub run : after new.answers (run_lines (state_in word new.registers) (k + 1) (pieces (drop end rest))) ≡ after old.answers (run_lines (state_in word old.registers) k (pieces rest))
  pub its_word : new.word ≡ Some word
  pub same_fractions : fractions_in new.registers ≡ fractions_in old.registers
  pub space : length new.answers + 2 * length (drop end rest) ≤ new.answer_room

-- The lines from one place up to another moved, and their texts were added: the run from there, after the answers so far, is the run from before.
pub record HaveMoved (word : WordName) (lines : List ℕ) (from first at number : ℕ) (old new : Space) : Type 0 where
  pub forward : from ≤ at
  pub within : at ≤ length lines
  pub count : number + from ≤ first + at
  pub run : after new.answers (run_lines (state_in word new.registers) number (pieces (drop at lines))) ≡ after old.answers (run_lines (state_in word old.registers) first (pieces (drop from lines)))
  pub its_word : new.word ≡ Some word
  pub same_fractions : fractions_in new.registers ≡ fractions_in old.registers
  pub space : length new.answers + 2 * length (drop at lines) ≤ new.answer_room
