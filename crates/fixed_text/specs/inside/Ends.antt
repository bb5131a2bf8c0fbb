-- Runs, by how they end.
use Rattle.std.specs.Prelude.{ℕ, List, [], ◌++◌, Option, Some}
use Rattle.fixed_text.specs.Runs.{Run}

abbrev pub stopped : {S C : Type 0} → Option S → C → Run S C
stopped s c = record { state = s; output = []; cause = Some c }

abbrev pub after : {S C : Type 0} → List ℕ → Run S C → Run S C
after bytes run = record { state = run.state; output = bytes ++ run.output; cause = run.cause }
