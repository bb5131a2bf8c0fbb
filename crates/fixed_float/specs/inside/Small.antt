-- Floats of few units.
use Rattle.std.specs.Prelude.{◌≡◌, ◌*◌, ◌≤◌, ◌^◌, ℕ, ℤ, Bool, Some, pos}
use Rattle.std.specs.Float.{Float}
use Rattle.std.specs.Float.Ieee.Exact.{HasValue}
use Rattle.fixed_word.specs.Format.{Congruent}
use Rattle.fixed_word.specs.declared.rounding.Rounding.TheVariants.{Even}
use Rattle.fixed_float.specs.Rows.{units_of_float}

-- x is at most 2 ^ 50 units of 2 ^ -g, or minus that
pub record IsSmall (x : Float) (g : ℕ) : Type 0 where
  pub sign : Bool
  pub size : ℕ
  pub value : HasValue x sign size (2 ^ 1074)
  pub small : size * 2 ^ g ≤ 2 ^ 50 * 2 ^ 1074

-- x is at most 2 ^ 64 units of 2 ^ -g, or minus that
pub record IsMedium (x : Float) (g : ℕ) : Type 0 where
  pub sign : Bool
  pub size : ℕ
  pub value : HasValue x sign size (2 ^ 1074)
  pub medium : size * 2 ^ g ≤ 2 ^ 64 * 2 ^ 1074

-- x is a number of units of 2 ^ -g, rounded, whose lowest 64 bits are those
pub record HasBits (x : Float) (g bits : ℕ) : Type 0 where
  pub whole : ℤ
  pub row : units_of_float x g Even ≡ Some whole
  pub alike : Congruent (2 ^ 64) (pos bits) whole
