-- Numbers between two others, of which either may be the greater.
use Rattle.std.specs.Prelude.{◌⊎◌, ◌≤ℤ◌, ℤ}

abbrev pub IsBetween : ℤ → ℤ → ℤ → Type 0
IsBetween a b x = ((a ≤ℤ x) × (x ≤ℤ b)) ⊎ ((b ≤ℤ x) × (x ≤ℤ a))
