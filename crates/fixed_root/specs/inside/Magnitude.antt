-- The magnitude of a whole number, as a natural one.
use Rattle.std.specs.Prelude.{ℕ, ℤ, unsigned_abs}

-- the magnitude of a number
abbrev pub nat : ℤ → ℕ
nat = unsigned_abs
