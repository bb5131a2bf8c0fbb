-- The highest power of two in a magnitude.
use Rattle.std.specs.Prelude.{◌≡◌, ◌+◌, ◌^◌, ◌<◌, ◌≤◌, ℕ}

-- r is the highest power of two that is at most a
abbrev pub IsHighestPower : ℕ → ℕ → Type 0
IsHighestPower a r = (j : ℕ) × (r ≡ 2 ^ j) × (r ≤ a) × (a < 2 ^ (j + 1))
