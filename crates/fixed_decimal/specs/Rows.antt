-- What calls return for the row of a text, which is a number of any size or an error.
use Rattle.std.specs.Prelude.{◌≡◌, ℕ, ℤ, nat_le, Bool, List, Option, None, Result, Ok, Err, if◌then◌else◌}
use Rattle.std.specs.Result.{result_ok}
use Rattle.fixed_word.specs.Format.{fits}
use Rattle.fixed_word.specs.Standing.{StandsFor}
use Rattle.fixed_word.specs.declared.outcome.Outcome.{Outcome}
use Rattle.fixed_word.specs.declared.rounding.Rounding.TheVariants.{Even}
use Rattle.fixed_decimal.specs.Decimal.{decimal_row}
use Rattle.fixed_decimal.specs.declared.error.DecimalError.{DecimalError}
use Rattle.fixed_decimal.specs.declared.error.DecimalError.TheVariants.{Overflow}

abbrev pub result_map : {A B E : Type 0} → (A → B) → Result A E → Result B E
result_map f (Ok x) = Ok (f x)
result_map f (Err e) = Err e

-- the outcome stands for the row's number, or the error is the row's
abbrev pub IsOutcomeOf : {T E : Type 0} → (T → ℤ) → Bool → ℕ → Result ℤ E → Result (Outcome T) E → Type 0
IsOutcomeOf value signed n (Ok x) (Ok outcome) = StandsFor value signed n x outcome
IsOutcomeOf value signed n (Err e) (Err fault) = fault ≡ e
IsOutcomeOf value signed n (Ok x) (Err fault) = ⊥
IsOutcomeOf value signed n (Err e) (Ok outcome) = ⊥

-- the row's number where it fits, and otherwise an error
abbrev pub checked_decimal : Bool → ℕ → Result ℤ DecimalError → Result ℤ DecimalError
checked_decimal signed n (Ok x) = if fits signed n x then Ok x else Err Overflow
checked_decimal signed n (Err e) = Err e

-- the number of a constant's text, to the nearest unit, if the fraction is at most the width and the number fits
abbrev pub literal : Bool → ℕ → ℕ → List ℕ → Option ℤ
literal signed n f text = if nat_le f n then result_ok (checked_decimal signed n (decimal_row text f Even)) else None
