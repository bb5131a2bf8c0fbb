-- The line, and the header, whose text some bytes are: a piece without its newline. And those of a piece.
use Rattle.std.specs.Prelude.{◌≡◌, ◌↔◌, ℕ, ◌-◌, List, length, drop, map, Option, Some, None, if◌then◌else◌, codes}
use Rattle.std.specs.Option.{option_map, option_and_then}
use Rattle.std.specs.Str.{bytes_eq}
use Rattle.std.specs.Str.Parse.{digits_value}
use Rattle.fixed_word.specs.declared.rounding.Rounding.{Rounding}
use Rattle.fixed_script.specs.declared.names.Policy.{Policy}
use Rattle.fixed_script.specs.declared.names.Op.{Op}
use Rattle.fixed_script.specs.declared.line.Arity.{Arity}
use Rattle.fixed_script.specs.declared.line.Arity.TheVariants.{Unary, Binary, ByInteger, Ternary}
use Rattle.fixed_text.specs.Words.{word_named}
use Rattle.fixed_script.specs.Names.{policy_named, op_named, rounding_named, arity}
use Rattle.fixed_script.specs.Text.{ScriptHeader, header_text, ScriptLine, SetTo, Apply, Operands, OneRegister, TwoRegisters, RegisterAndInt, ThreeRegisters, IsLine, line_text, takes_rounding}
use Rattle.fixed_word.specs.Pieces.{body}
use Rattle.fixed_text.specs.Inverse.{token, whole_value, numbered_value, if_its_text}
use Rattle.fixed_text.specs.Tokens.{tokens_of}

-- ---- the only line that can have these tokens, if any has
abbrev pub operands_in : Arity → List (List ℕ) → Operands
operands_in Unary ts = OneRegister (numbered_value (token ts 0))
operands_in Binary ts = TwoRegisters (numbered_value (token ts 0)) (numbered_value (token ts 1))
operands_in ByInteger ts = RegisterAndInt (numbered_value (token ts 0)) (whole_value (token ts 1))
operands_in Ternary ts = ThreeRegisters (numbered_value (token ts 0)) (numbered_value (token ts 1)) (numbered_value (token ts 2))

-- (the last token names it)
abbrev pub rounding_in : Op → List (List ℕ) → Option Rounding
rounding_in op ts = if takes_rounding op then rounding_named (token ts (length ts - 1)) else None

abbrev pub apply_in : ℕ → Policy → Op → List (List ℕ) → ScriptLine
apply_in dest policy op ts = Apply dest policy op (operands_in (arity op) ts) (rounding_in op ts)

abbrev pub line_in : List (List ℕ) → Option ScriptLine
line_in ts =
    if bytes_eq (token ts 1) (codes "set") then Some (SetTo (numbered_value (token ts 0)) (whole_value (token ts 2)))
    else option_and_then (λ policy. option_map (λ op. apply_in (numbered_value (token ts 0)) policy op (drop 3 ts)) (op_named (token ts 2))) (policy_named (token ts 1))

abbrev pub header_in : List (List ℕ) → Option ScriptHeader
header_in ts = option_map (λ w. record { word = w; first = digits_value 10 (token ts 1); others = map (digits_value 10) (drop 2 ts) }) (word_named (token ts 0))

-- ---- the line whose text the bytes are
unfoldable pub line_of : List ℕ → Option ScriptLine
line_of piece = if_its_text line_text piece (line_in (tokens_of piece))

unfoldable pub header_of : List ℕ → Option ScriptHeader
header_of piece = if_its_text header_text piece (header_in (tokens_of piece))

-- ---- the line of a piece, which ends in a newline
unfoldable pub line_of_piece : List ℕ → Option ScriptLine
line_of_piece piece = option_and_then line_of (body piece)

unfoldable pub header_of_piece : List ℕ → Option ScriptHeader
header_of_piece piece = option_and_then header_of (body piece)

-- ---- the laws
abbrev pub ReadsLines : Type 0
ReadsLines = (piece : List ℕ) (line : ScriptLine) → (line_of piece ≡ Some line) ↔ (IsLine line × (line_text line ≡ piece))

abbrev pub ReadsHeaders : Type 0
ReadsHeaders = (piece : List ℕ) (header : ScriptHeader) → (header_of piece ≡ Some header) ↔ (header_text header ≡ piece)
