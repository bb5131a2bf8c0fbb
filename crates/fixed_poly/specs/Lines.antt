-- The header, and the line, whose text a piece is.
use Rattle.std.specs.Prelude.{ℕ, List, drop, map, Option, Some, if◌then◌else◌, codes}
use Rattle.std.specs.Option.{option_map}
use Rattle.std.specs.Str.{bytes_eq}
use Rattle.std.specs.Str.Parse.{digits_value}
use Rattle.fixed_text.specs.Inverse.{token, whole_value, if_its_text}
use Rattle.fixed_text.specs.Tokens.{tokens_of}
use Rattle.fixed_text.specs.Words.{word_named}
use Rattle.fixed_poly.specs.Text.{PolyHeader, header_text, PolyLine, Coefs, At, line_text}

-- the only ones that can have these tokens, if any have
abbrev pub header_in : List (List ℕ) → Option PolyHeader
header_in ts = option_map (λ w. record { word = w; frac = digits_value 10 (token ts 2) }) (word_named (token ts 1))

abbrev pub line_in : List (List ℕ) → PolyLine
line_in ts =
    if bytes_eq (token ts 0) (codes "at") then At (whole_value (token ts 1)) else Coefs (whole_value (token ts 1)) (map whole_value (drop 2 ts))

unfoldable pub header_of : List ℕ → Option PolyHeader
header_of piece = if_its_text header_text piece (header_in (tokens_of piece))

unfoldable pub line_of : List ℕ → Option PolyLine
line_of piece = if_its_text line_text piece (Some (line_in (tokens_of piece)))
