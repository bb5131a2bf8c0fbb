-- How large magnitudes of words are.
use Rattle.std.specs.Prelude.{◌-◌, ℕ, Bool, true, false}

-- the magnitude of a number of n bits is at most 2 to this power
abbrev pub digits_of : Bool → ℕ → ℕ
digits_of true n = n - 1
digits_of false n = n
