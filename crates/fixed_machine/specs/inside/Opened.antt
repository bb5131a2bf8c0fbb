-- The header that a script begins with, and where its lines begin.
use Rattle.std.specs.Prelude.{◌≡◌, ◌≤◌, ℕ, List, ◌∷◌, length, take, drop, Some}
use Rattle.fixed_word.specs.Pieces.{pieces}
use Rattle.fixed_script.specs.Headers.{CappedHeader, capped_header}
use Rattle.fixed_script.specs.Lines.{header_of_piece}
use Rattle.fixed_script.specs.Text.{ScriptHeader}

pub record IsOpened (script : List ℕ) (read : CappedHeader) (end : ℕ) : Type 0 where
  pub header : ScriptHeader
  pub is : header_of_piece (take end script) ≡ Some header
  pub capped : read ≡ capped_header header
  pub cut : pieces script ≡ take end script ∷ pieces (drop end script)
  pub within : end ≤ length script
