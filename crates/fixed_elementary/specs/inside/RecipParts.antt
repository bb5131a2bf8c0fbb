-- The root of a quotient, found digit by digit.
use Rattle.std.specs.Prelude.{◌+◌, ◌*◌, ◌≤◌, ◌<◌, ℕ}

-- the dividend: q is the root and r the remainder of the quotient by a, which leaves t
abbrev pub divided : ℕ → ℕ → ℕ → ℕ → ℕ
divided a q r t = a * (q * q + r) + t

-- q is the root of n over a, rounded down
abbrev pub IsRecipRootOf : ℕ → ℕ → ℕ → Type 0
IsRecipRootOf n a q = (q * q * a ≤ n) × (n < (q + 1) * (q + 1) * a)
