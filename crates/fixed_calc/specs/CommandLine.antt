-- The words of a command line.
use Rattle.std.specs.Prelude.{◌≡◌, ◌≢◌, ◌≤◌, ℕ, List, [], ◌∷◌, map, String, string_bytes, codes}
use Rattle.std.specs.declared.alloc.Global.{Global}
use Rattle.fixed_word.specs.Decimal.{natural_text}

-- a demonstration has at most this many lines
abbrev pub most_lines : ℕ
most_lines = 1000000

-- the words are `demo` and the decimal of n, which is from 1 to 1,000,000
pub record IsDemo (words : List (String Global)) (n : ℕ) : Type 0 where
  pub texts : map string_bytes words ≡ codes "demo" ∷ natural_text n ∷ []
  pub some : 1 ≤ n
  pub most : n ≤ most_lines

-- there are words, and they are not `demo N`
abbrev pub IsNoCommand : List (String Global) → Type 0
IsNoCommand words = (words ≢ []) × ((n : ℕ) → IsDemo words n → ⊥)
