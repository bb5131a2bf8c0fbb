-- The digits of a number, with leading zeros.
use Rattle.std.specs.Prelude.{ℕ, ◌+◌, ◌/◌, ◌%◌, List, [], ◌∷◌, ◌++◌}

-- of a number below 100
abbrev pub pair_digits : ℕ → List ℕ
pair_digits n = (48 + n / 10) ∷ (48 + n % 10) ∷ []

-- of a number below 10,000
abbrev pub four_digits : ℕ → List ℕ
four_digits n = pair_digits (n / 100) ++ pair_digits (n % 100)

-- of a number below 100,000,000
abbrev pub eight_digits : ℕ → List ℕ
eight_digits n = four_digits (n / 10000) ++ four_digits (n % 10000)
