-- The digits of a logarithm, by squaring a mantissa whose unit is w.
use Rattle.std.specs.Prelude.{◌≡◌, ◌+◌, ◌*◌, ◌^◌, ◌≤◌, ◌<◌, ℕ}

-- n is the square of m, over 2^b, rounded down: the mantissa after the digit b
pub record IsSquared (w m b n : ℕ) : Type 0 where
  pub digit : b ≤ 1
  pub least : w ≤ n
  pub most : n < 2 * w
  pub below : n * (w * 2 ^ b) ≤ m * m
  pub above : m * m ≤ (n + 1) * (w * 2 ^ b)

-- m is the mantissa of a, and d its whole logarithm
pub record IsMantissa (w a d m : ℕ) : Type 0 where
  pub least : w ≤ m
  pub most : m < 2 * w
  pub digits : d + 1 ≤ 128
  pub value : 2 ^ d * m ≡ a * w
