-- The exponent of 2 of a power.
use Rattle.std.specs.Prelude.{◌≡◌, ◌+◌, ◌*◌, ◌^◌, ◌≤◌, ◌<◌, ℕ, Option, Some, None}
use Rattle.fixed_elementary.specs.Enclosed.{IsEnclosed}

-- of the power of a units to the exponent of up less down units, all of 2^-f, z - 4 and z - 1 enclose the exponent of 2, in units
-- of 2^-57; where there is no z, the exponent is below 0. s is the logarithm of a, in units of 2^-121
pub record IsPowExponent (a up down f : ℕ) (z : Option ℕ) : Type 0 where
  pub s : ℕ
  pub enclosed : IsEnclosed a 121 s
  pub least : (e : ℕ) → z ≡ Some e → e * (2 ^ f * 2 ^ 64) + up * (f * 2 ^ 121) + down * (s + 2) ≤ up * s + down * (f * 2 ^ 121) + f * 2 ^ f * 2 ^ 121 + 4 * (2 ^ f * 2 ^ 64)
  pub most : (e : ℕ) → z ≡ Some e → up * (s + 2) + down * (f * 2 ^ 121) + f * 2 ^ f * 2 ^ 121 + 2 ^ f * 2 ^ 64 ≤ e * (2 ^ f * 2 ^ 64) + up * (f * 2 ^ 121) + down * s
  pub none : z ≡ None → up * (s + 2) + down * (f * 2 ^ 121) + f * 2 ^ f * 2 ^ 121 < up * (f * 2 ^ 121) + down * s
