-- Numbers that differ by 2 ^ n, of which one lies in or beside the range of a word.
use Rattle.std.specs.Prelude.{◌≡◌, ◌^◌, ◌≤ℤ◌, ◌+ℤ◌, ℕ, ℤ, Bool, true, false, pos}
use Rattle.fixed_word.specs.Format.{lowest, highest}

-- y is x where nothing moved, and else lies below x by 2 ^ n, or above
abbrev pub IsTurned : Bool → ℕ → Bool → Bool → ℤ → ℤ → Type 0
IsTurned signed n false below x y = x ≡ y
IsTurned signed n true true x y = (x ≡ y +ℤ pos (2 ^ n)) × (lowest signed n ≤ℤ x) × (y ≤ℤ highest signed n)
IsTurned signed n true false x y = (y ≡ x +ℤ pos (2 ^ n)) × (lowest signed n ≤ℤ y) × (x ≤ℤ highest signed n)
