-- The exponent of 2 of a power of e.
use Rattle.std.specs.Prelude.{◌≡◌, ◌+◌, ◌*◌, ◌^◌, ◌≤◌, ◌<◌, ◌-ℤ◌, ℕ, ℤ, pos, Option, Some, None}

-- of b = 2^(p / q) to the power of a units of 2^-f, in such units, z - 4 and z - 1 enclose the exponent, in units of 2^-h;
-- where there is no z, the exponent is below 0
pub record IsExponentTo (p q : ℕ) (a : ℤ) (f h : ℕ) (z : Option ℕ) : Type 0 where
  pub up : ℕ
  pub down : ℕ
  pub value : a ≡ pos up -ℤ pos down
  pub least : (e : ℕ) → z ≡ Some e → e * (2 ^ f * q) + down * p * 2 ^ h ≤ (up * p + f * 2 ^ f * q) * 2 ^ h + 4 * (2 ^ f * q)
  pub most : (e : ℕ) → z ≡ Some e → (up * p + f * 2 ^ f * q) * 2 ^ h + 2 ^ f * q ≤ e * (2 ^ f * q) + down * p * 2 ^ h
  pub none : z ≡ None → up * p + f * 2 ^ f * q < down * p
