-- What the parts of the spelling return.
use Rattle.std.specs.Prelude.{◌≡◌, ◌<◌, ◌≤◌, ◌+◌, ◌-◌, ◌++◌, ℕ, List, [], ◌∷◌, length, take, drop, Option, Some, None, Result, Ok, Err}
use Rattle.std.specs.Bool.{⊤}
use Rattle.fixed_word.specs.declared.rounding.Rounding.{Rounding}
use Rattle.fixed_word.specs.Pieces.{pieces}
use Rattle.fixed_script.specs.Names.{rounding_name, default_rounding}
use Rattle.fixed_script.specs.Text.{ScriptLine, SetTo, Apply}
use Rattle.fixed_text.specs.Runs.{Run, Output, Fault, lines_from, meaning_of}
use Rattle.fixed_text.specs.inside.Ends.{after}
use Rattle.fixed_calc.specs.Spelled.{spelled_at}
use Rattle.fixed_calc.specs.declared.spelled.ExplicitFault.{ExplicitFault}
use Rattle.fixed_calc.specs.declared.spelled.ExplicitFault.TheVariants.{Syntax, Memory}

-- the rounding that is added to a line, if there is one
abbrev pub added_to : ScriptLine → Option Rounding
added_to (SetTo dest k) = None
added_to (Apply dest policy op xs None) = default_rounding op
added_to (Apply dest policy op xs (Some rounding)) = None

-- a piece whose line ends in that rounding
abbrev pub with_end : Option Rounding → List ℕ → List ℕ
with_end None piece = piece
with_end (Some rounding) piece = take (length piece - 1) piece ++ (32 ∷ (rounding_name rounding ++ (10 ∷ [])))

-- the lines from piece k on
abbrev pub spelled_lines : ℕ → List (List ℕ) → Run (Unit {0}) ℕ
spelled_lines k ps = lines_from spelled_at tt k ps

-- why the spelling stops
abbrev pub StopsSpelling : Run (Unit {0}) ℕ → ExplicitFault → Type 0
StopsSpelling run (Syntax k) = meaning_of run ≡ Fault k
StopsSpelling run Memory = ⊤

-- all is written, or why the spelling stops
abbrev pub SpellsAll : Run (Unit {0}) ℕ → Result (Unit {0}) ExplicitFault → List ℕ → Type 0
SpellsAll run (Ok u) bytes = meaning_of run ≡ Output bytes
SpellsAll run (Err fault) bytes = StopsSpelling run fault

-- the first line of the rest was spelled out: the spelling from there, after what is written, is the spelling from
-- before
pub record HasSpelled (k : ℕ) (rest : List ℕ) (end : ℕ) (old new : List ℕ) : Type 0 where
  pub some : 0 < end
  pub within : end ≤ length rest
  pub same : after new (spelled_lines (k + 1) (pieces (drop end rest))) ≡ after old (spelled_lines k (pieces rest))
