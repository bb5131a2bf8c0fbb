-- Products by a constant.
use Rattle.std.specs.Prelude.{◌+◌, ◌*◌, ◌^◌, ◌≤◌, ◌<◌, ℕ}

-- c units of 2^-128 are q / p, rounded down, and less than 3/4
pub record IsInverse (c p q : ℕ) : Type 0 where
  pub below : c * p ≤ 2 ^ 128 * q
  pub above : 2 ^ 128 * q ≤ (c + 1) * p

-- u is x / d, rounded down
pub record IsQuotient (x d u : ℕ) : Type 0 where
  pub below : u * d ≤ x
  pub above : x < (u + 1) * d
