-- What the code reads in a piece.
use Rattle.std.specs.Prelude.{◌≡◌, ℕ, List, Option, Some, None}
use Rattle.fixed_script.specs.declared.line.Line.{Line}
use Rattle.fixed_script.specs.Text.{ScriptHeader, ScriptLine}
use Rattle.fixed_script.specs.Capped.{capped, checked_script_line}
use Rattle.fixed_script.specs.Headers.{CappedHeader, capped_header}
use Rattle.fixed_script.specs.Lines.{line_of_piece, header_of_piece}

-- the piece's line, capped
abbrev pub ReadsLine : List ℕ → Option Line → Type 0
ReadsLine piece None = line_of_piece piece ≡ None
ReadsLine piece (Some read) = (line : ScriptLine) × (line_of_piece piece ≡ Some line) × (checked_script_line read ≡ Some (capped line))

-- the piece's header, capped
abbrev pub ReadsHeader : List ℕ → Option CappedHeader → Type 0
ReadsHeader piece None = header_of_piece piece ≡ None
ReadsHeader piece (Some read) = (header : ScriptHeader) × (header_of_piece piece ≡ Some header) × (read ≡ capped_header header)
