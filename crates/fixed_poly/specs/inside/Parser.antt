-- What the parser returns, as a function of the tokens.
use Rattle.std.specs.Prelude.{ℕ, ℤ, List, [], ◌∷◌, Option, Some, None, if◌then◌else◌, codes}
use Rattle.std.specs.Option.{option_map}
use Rattle.std.specs.Str.{bytes_eq}
use Rattle.fixed_text.specs.Numbers.{natural_in, only_number, wholes_in}
use Rattle.fixed_text.specs.Tokens.{◌>>=◌, next_by, at_end}
use Rattle.fixed_text.specs.Words.{word_named}
use Rattle.fixed_poly.specs.Text.{PolyHeader, PolyLine, Coefs, At}

unfoldable pub format_at : List (List ℕ) → Option PolyHeader
format_at ts = do
  word ← next_by word_named ts
  frac ← next_by natural_in word.1
  at_end frac.1 (record { word = word.0; frac = frac.0 })

unfoldable pub header_at : List (List ℕ) → Option PolyHeader
header_at ts = do
  name ← next_by Some ts
  if bytes_eq name.0 (codes "poly") then format_at name.1 else None

abbrev pub coefs_of : Option (List ℤ) → Option PolyLine
coefs_of None = None
coefs_of (Some []) = None
coefs_of (Some (c ∷ cs)) = Some (Coefs c cs)

unfoldable pub line_at : List (List ℕ) → Option PolyLine
line_at ts = do
  name ← next_by Some ts
  if bytes_eq name.0 (codes "coefs") then coefs_of (wholes_in name.1) else (if bytes_eq name.0 (codes "at") then option_map At (only_number name.1) else None)
