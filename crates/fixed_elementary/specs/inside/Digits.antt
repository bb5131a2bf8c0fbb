-- The digits of a logarithm that were found.
use Rattle.std.specs.Prelude.{◌≡◌, ◌+◌, ◌*◌, ◌^◌, ◌≤◌, ◌<◌, ℕ}
use Rattle.fixed_elementary.specs.Log2.{IsLog2}

-- i digits were found: the digits d and the mantissa m are left of the power a^(2^i), after 2^i - 1 steps
pub record IsRead (w a i d m : ℕ) : Type 0 where
  pub turns : ℕ
  pub turns_are : turns + 1 ≡ 2 ^ i
  pub least : w ≤ m
  pub most : m < 2 * w
  pub below : 2 ^ d * m ≤ a ^ 2 ^ i * w
  pub above : a ^ 2 ^ i * w * w ^ turns ≤ 2 ^ d * m * (w + 1) ^ turns
  pub digits : d + 1 ≤ 128 * 2 ^ i
  pub exact : (j : ℕ) → a ≡ 2 ^ j → (m ≡ w) × (d ≡ j * 2 ^ i)

-- s is the logarithm of a in units of 2^-g, as near as a mantissa of that unit allows; that of a power of two is exact
pub record IsFound (room a g s : ℕ) : Type 0 where
  pub near : (k : ℕ) → g + k ≤ room → IsLog2 a g k s
  pub exact : (j : ℕ) → a ≡ 2 ^ j → s ≡ j * 2 ^ g
