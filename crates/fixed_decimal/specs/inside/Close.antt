-- Decimals that are close to a number.
use Rattle.std.specs.Prelude.{◌≡◌, ◌⊎◌, ◌*◌, ◌-◌, ◌%◌, ◌<◌, ℕ, min}

-- the distance from m t to the nearest multiple of d
abbrev pub off : ℕ → ℕ → ℕ → ℕ
off m t d = min ((m * t) % d) (d - (m * t) % d)

-- some multiple of 1 / t is less than half a unit of 1 / d away from m / d, or half a unit if m is even
abbrev pub IsClose : ℕ → ℕ → ℕ → Type 0
IsClose m t d = (2 * off m t d < t) ⊎ ((2 * off m t d ≡ t) × (m % 2 ≡ 0))
