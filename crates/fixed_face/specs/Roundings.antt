-- What a call with a named rounding answers.
use Rattle.std.specs.Prelude.{◌==◌, ℕ, Option, Some, None, Result, Err, if◌then◌else◌}
use Rattle.fixed_word.specs.declared.rounding.Rounding.{Rounding}
use Rattle.fixed_word.specs.declared.rounding.Rounding.TheVariants.{Down, Zero, Even}
use Rattle.fixed_face.specs.declared.answer.Code.{Code}
use Rattle.fixed_face.specs.declared.answer.Code.TheVariants.{NoRounding}

-- the rounding that has the number
abbrev pub rounding_of : ℕ → Option Rounding
rounding_of k = if k == 0 then Some Down else (if k == 1 then Some Zero else (if k == 2 then Some Even else None))

-- the answer for a rounding, or the code where there is none
unfoldable pub for_rounding : {X : Type 0} → Option Rounding → (Rounding → Result X Code) → Result X Code
for_rounding (Some r) answer = answer r
for_rounding None answer = Err NoRounding

-- the answer for the rounding that has the number k
abbrev pub at_rounding : {X : Type 0} → ℕ → (Rounding → Result X Code) → Result X Code
at_rounding k answer = for_rounding (rounding_of k) answer
