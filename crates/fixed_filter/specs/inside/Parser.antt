-- What the parser returns, as a function of the tokens.
use Rattle.std.specs.Prelude.{ℕ, ℤ, List, [], ◌∷◌, Option, Some, None, if◌then◌else◌, codes}
use Rattle.std.specs.Str.{bytes_eq}
use Rattle.fixed_text.specs.Numbers.{natural_in, numbered_in, only_number, wholes_in}
use Rattle.fixed_text.specs.Tokens.{◌>>=◌, next_by, at_end}
use Rattle.fixed_text.specs.Words.{word_named}
use Rattle.fixed_filter.specs.Text.{FilterHeader, FilterLine, Taps, Sample}

unfoldable pub format_at : List (List ℕ) → Option FilterHeader
format_at ts = do
  word ← next_by word_named ts
  out ← next_by natural_in word.1
  coef ← next_by natural_in out.1
  sample ← next_by natural_in coef.1
  at_end sample.1 (record { word = word.0; out = out.0; coef = coef.0; sample = sample.0 })

unfoldable pub header_at : List (List ℕ) → Option FilterHeader
header_at ts = do
  name ← next_by Some ts
  if bytes_eq name.0 (codes "filter") then format_at name.1 else None

abbrev pub taps_of : Option (List ℤ) → Option FilterLine
taps_of None = None
taps_of (Some []) = None
taps_of (Some (c ∷ cs)) = Some (Taps c cs)

abbrev pub sample_of : Option ℕ → Option ℤ → Option FilterLine
sample_of None x = None
sample_of (Some channel) None = None
sample_of (Some channel) (Some x) = Some (Sample channel x)

unfoldable pub line_at : List (List ℕ) → Option FilterLine
line_at ts = do
  name ← next_by Some ts
  if bytes_eq name.0 (codes "taps") then taps_of (wholes_in name.1) else sample_of (numbered_in 99 name.0) (only_number name.1)
