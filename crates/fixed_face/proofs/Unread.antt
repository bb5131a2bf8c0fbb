-- A text that is no decimal.
use Rattle.std.proofs.Common.{◌≡◌, ◌≤◌, ℕ, ℤ, Bool, true, nat_le, Option, Some, Result, Ok, Err, ap, ◌∙◌, arith}
use Rattle.std.proofs.lemmas.Bool.Decides.{nat_tests}
use Rattle.fixed_word.specs.declared.rounding.Rounding.{Rounding}
use Rattle.fixed_decimal.specs.Rows.{IsOutcomeOf}
use Rattle.fixed_decimal.specs.declared.error.DecimalError.{DecimalError}
use Rattle.fixed_face.specs.declared.answer.Code.{Code}
use Rattle.fixed_face.specs.Answers.{at_fraction}
use Rattle.fixed_face.specs.Roundings.{at_rounding, for_rounding, rounding_of}
use Rattle.fixed_face.specs.Texts.{or_code, text_code}
use Rattle.fixed_face.specs.Calls.{IsResultOf}

pub unread : {T : Type 0} (value : T → ℤ) (signed : Bool) (n : ℕ) (row : Result ℤ DecimalError) (fault : DecimalError) (code : Code) → IsOutcomeOf value signed n row (Err fault) → code ≡ text_code fault → IsResultOf value signed n (or_code row) (Err code)
unfolding IsResultOf or_code
unread value signed n (Ok x) fault code never is = absurd never
unread value signed n (Err e) fault code same is = is ∙ ap text_code same

-- in a call with a fraction and a rounding
pub unread_call : {T : Type 0} (value : T → ℤ) (signed : Bool) (n f k : ℕ) (r : Rounding) (row : Rounding → Result ℤ DecimalError) (fault : DecimalError) (code : Code) → f ≤ n → rounding_of k ≡ Some r → IsOutcomeOf value signed n (row r) (Err fault) → code ≡ text_code fault
    → IsResultOf value signed n (at_fraction n f (at_rounding k (λ r. or_code (row r)))) (Err code)
unfolding at_fraction for_rounding
unread_call value signed n f k r row fault code le some outcome is =
    let e : nat_le f n ≡ true = grind (arith, nat_tests, le) in
    rw (e, some) (unread value signed n (row r) fault code outcome is)
