use Rattle.std.proofs.Common.{◌≡◌, ◌≤◌, ◌+◌, ◌-◌, length, drop}
use Rattle.fixed_word.specs.Pieces.{pieces}
use Rattle.fixed_text.specs.inside.Ends.{after}
use Rattle.fixed_calc.specs.inside.Spelling.{spelled_lines}
use Rattle.fixed_calc.proofs.spelled.spell_lines.Given as goal

-- the spelling from here, after what is written, is the spelling of all
abbrev pub invariant-loop-at : goal.invariant-loop-at
invariant-loop-at l =
    record {
      within : l.at ≤ length l.lines;
      same : after l.script.items (spelled_lines l.number (pieces (drop l.at l.lines))) ≡ after l.fn.script.items (spelled_lines 2 (pieces l.lines));
      count : l.number ≤ l.at + 2;
    }

abbrev pub decreases-loop-at : goal.decreases-loop-at
decreases-loop-at l = length l.lines - l.at
