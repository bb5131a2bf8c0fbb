-- The lines of a script, as a run.
use Rattle.std.specs.Prelude.{ℕ, List, Option, Result, Ok, Err}
use Rattle.std.specs.Option.{option_map_or}
use Rattle.fixed_text.specs.Runs.{Run, lines_from}
use Rattle.fixed_script.specs.Lines.{line_of_piece}
use Rattle.fixed_machine.specs.Machine.{State, row_by}
use Rattle.fixed_machine.specs.Meaning.{step_by}
use Rattle.fixed_machine.specs.declared.cause.Cause.{Cause}

-- the cause, or the move
abbrev pub by_cause : Option Cause → State × List ℕ → Result (State × List ℕ) Cause
by_cause found moved = option_map_or Err found (Ok moved)

abbrev pub script_line : State → ℕ → List ℕ → Result (State × List ℕ) Cause
script_line s k piece = step_by row_by s k (line_of_piece piece)

abbrev pub run_lines : State → ℕ → List (List ℕ) → Run State Cause
run_lines = lines_from script_line
