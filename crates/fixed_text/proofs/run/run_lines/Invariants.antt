use Rattle.std.proofs.Common.{◌≡◌, ◌≤◌, ◌+◌, ◌-◌, length, drop}
use Rattle.fixed_word.specs.Pieces.{pieces}
use Rattle.fixed_text.specs.Runs.{lines_from}
use Rattle.fixed_text.specs.Readings.{line_by}
use Rattle.fixed_text.proofs.Turns.{from_here}
use Rattle.fixed_text.proofs.run.run_lines.Given as goal

-- the run from here, after what is printed, is the run of all
abbrev pub invariant-loop-at : goal.invariant-loop-at
invariant-loop-at g l =
    record {
      within : l.at ≤ length l.lines;
      run : from_here (line_by g.R.Run.line) l.output l.run l.number (drop l.at l.lines) ≡ lines_from (line_by g.R.Run.line) l.fn.run 2 (pieces l.lines);
      count : l.number ≤ l.at + 2;
    }

abbrev pub decreases-loop-at : goal.decreases-loop-at
decreases-loop-at g l = length l.lines - l.at
