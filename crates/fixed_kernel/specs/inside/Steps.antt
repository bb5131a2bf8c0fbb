-- What a rounding adds to the magnitude of a quotient.
use Rattle.std.specs.Prelude.{◌+◌, ◌*◌, ◌%◌, ℕ, zero, suc, Bool, true, false, nat_le, if◌then◌else◌}
use Rattle.fixed_word.specs.declared.rounding.Rounding.{Rounding}
use Rattle.fixed_word.specs.declared.rounding.Rounding.TheVariants.{Down, Zero, Even}

-- of a quotient q with the remainder r by d, which has the other sign than its dividend where `below`
abbrev pub rounding_step : Rounding → Bool → ℕ → ℕ → ℕ → ℕ
rounding_step Down true q (suc r) d = 1
rounding_step Down true q zero d = 0
rounding_step Down false q r d = 0
rounding_step Zero below q r d = 0
rounding_step Even below q r d = if nat_le (2 * r + q % 2) d then 0 else 1
