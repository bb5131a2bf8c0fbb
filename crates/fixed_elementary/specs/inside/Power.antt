-- Powers of 2 with a fractional exponent, in units of 1/w.
use Rattle.std.specs.Prelude.{◌≡◌, ◌+◌, ◌*◌, ◌^◌, ◌≤◌, ◌<◌, ◌<ℤ◌, ℕ, ℤ, pos, Option, Some, None}

-- p / w is at most 2 ^ (z / q), and at least that times (w / (w + 1)) ^ (i / q)
pub record IsPower (w q z i p : ℕ) : Type 0 where
  pub below : p ^ q ≤ 2 ^ z * w ^ q
  pub above : 2 ^ z * w ^ q * w ^ i ≤ p ^ q * (w + 1) ^ i

-- n is the product of p and c, rounded down
pub record IsFloored (w p c n : ℕ) : Type 0 where
  pub least : w ≤ n
  pub below : n * w ≤ p * c
  pub above : p * c ≤ (n + 1) * w

-- p / w is 2 ^ (z / 2 ^ b), or less, by at most n factors w / (w + 1)
pub record IsPart (w b n z p : ℕ) : Type 0 where
  pub digits : z < 2 ^ b
  pub least : w ≤ p
  pub most : p < 2 * w
  pub power : IsPower w (2 ^ b) z (n * 2 ^ b) p
  pub unit : z ≡ 0 → p ≡ w

-- 2 ^ (z / 2 ^ b) lies between p / w and (p + e) / w
pub record IsWithin (w b e z p : ℕ) : Type 0 where
  pub below : p ^ 2 ^ b ≤ 2 ^ z * w ^ 2 ^ b
  pub above : 2 ^ z * w ^ 2 ^ b ≤ (p + e) ^ 2 ^ b

-- the exponent is x, or there is none and x is below 0
abbrev pub IsExponent : ℤ → Option ℕ → Type 0
IsExponent x (Some e) = x ≡ pos e
IsExponent x None = x <ℤ pos 0
