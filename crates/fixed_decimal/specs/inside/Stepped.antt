-- The magnitude of a rounded quotient.
use Rattle.std.specs.Prelude.{◌+◌, ◌/◌, ◌%◌, ◌&&◌, ◌||◌, ℕ, Bool, false}
use Rattle.fixed_word.specs.declared.rounding.Rounding.{Rounding}
use Rattle.fixed_word.specs.declared.rounding.Rounding.TheVariants.{Down, Zero, Even}
use Rattle.fixed_kernel.specs.inside.Steps.{rounding_step}

-- the magnitude of n over d, a number that is negative if `below`
abbrev pub stepped : Rounding → Bool → ℕ → ℕ → ℕ
stepped k below n d = n / d + rounding_step k below (n / d) (n % d) d

-- whether the step adds 1, from whether the whole number is odd, and whether a half and a rest follow it
abbrev pub moves_past : Rounding → Bool → Bool → Bool → Bool → Bool
moves_past Down below odd half rest = below && (half || rest)
moves_past Zero below odd half rest = false
moves_past Even below odd half rest = half && (odd || rest)
