-- Logarithms by factors. All are to the base 2, in units of 2^-h.
use Rattle.std.specs.Prelude.{◌+◌, ◌*◌, ◌^◌, ◌≤◌, ◌<◌, ℕ}

-- a factor is c units of 2^-63, and minus its logarithm lies between l and l + 2
pub record IsFactor (h c l : ℕ) : Type 0 where
  pub below : 2 ^ l * c ^ 2 ^ h ≤ (2 ^ 63) ^ 2 ^ h
  pub above : (2 ^ 63) ^ 2 ^ h ≤ 2 ^ (l + 2) * c ^ 2 ^ h

-- it is for the numbers from 1 + d / q up to 1 + (d + 1) / q: a product by one is at least 1, and hardly above 1 + 1 / q
pub record IsNearFactor (q d c : ℕ) : Type 0 where
  pub some : 0 < c
  pub one : c ≤ 2 ^ 63
  pub least : 2 ^ 63 * q ≤ (q + d) * c
  pub most : (q + d + 1) * c ≤ 2 ^ 63 * (q + 1) + q

-- the logarithm of m over n lies between l and l + e
pub record IsOver (h e m n l : ℕ) : Type 0 where
  pub below : 2 ^ l * n ^ 2 ^ h ≤ m ^ 2 ^ h
  pub above : m ^ 2 ^ h ≤ 2 ^ (l + e) * n ^ 2 ^ h

-- m units of 1 / w are at least 1, and at most 1 + 1 / q, but for i times v units
pub record IsNearOne (w v q i m : ℕ) : Type 0 where
  pub least : w ≤ m
  pub most : q * m ≤ (q + 1) * w + q * (i * v)

-- the logarithm of a lies between d and a part p, and e units more
pub record IsClose (h e a d p : ℕ) : Type 0 where
  pub below : 2 ^ (d * 2 ^ h + p) ≤ a ^ 2 ^ h
  pub above : a ^ 2 ^ h ≤ 2 ^ (d * 2 ^ h + p + e)
