-- What a call of the face for C answers: a code, and a result where the code is 0.
use Rattle.std.specs.Prelude.{◌≡◌, ℕ, ℤ, Bool, pos, neg_ℤ, nat_le, Option, Some, None, Result, Ok, Err, if◌then◌else◌}
use Rattle.fixed_word.specs.declared.outcome.Side.{Side}
use Rattle.fixed_word.specs.declared.outcome.Side.TheVariants.{Fits, Above, Below}
use Rattle.fixed_word.specs.Format.{wrap}
use Rattle.fixed_word.specs.Standing.{side_of}
use Rattle.fixed_face.specs.declared.answer.Code.{Code}
use Rattle.fixed_face.specs.declared.answer.Code.TheVariants.{FractionPastWidth, ZeroDivisor, NegativeRoot, EndsExchanged, OutOfRange, NoElement, CountsDiffer, NoRounding, NotFinite, NoDigits, InvalidDigit, TooManyPoints, TooManyPlaces, NoRoom, NoPolicy, NotPositive, NoAngle}

-- the numbers of codes and of sides
abbrev pub code_number : Code → ℤ
code_number FractionPastWidth = pos 1
code_number ZeroDivisor = pos 2
code_number NegativeRoot = pos 3
code_number EndsExchanged = pos 4
code_number OutOfRange = pos 5
code_number NoElement = pos 6
code_number CountsDiffer = pos 7
code_number NoRounding = pos 8
code_number NotFinite = pos 9
code_number NoDigits = pos 10
code_number InvalidDigit = pos 11
code_number TooManyPoints = pos 12
code_number TooManyPlaces = pos 13
code_number NoRoom = pos 14
code_number NoPolicy = pos 15
code_number NotPositive = pos 16
code_number NoAngle = pos 17

abbrev pub side_number : Side → ℤ
side_number Fits = pos 0
side_number Above = pos 1
side_number Below = neg_ℤ (pos 1)

-- a row, or the code where it is undefined
unfoldable pub row_or : Code → Option ℤ → Result ℤ Code
row_or code None = Err code
row_or code (Some x) = Ok x

-- the answer for a fraction f that is at most the width n
unfoldable pub at_fraction : {X : Type 0} → ℕ → ℕ → Result X Code → Result X Code
at_fraction n f answer = if nat_le f n then answer else Err FractionPastWidth

-- what a call leaves in the two fields of its result
abbrev pub Left : Type 0 → Type 0
Left T = T × ℤ

-- the call returns 0 and leaves what stands for the number, or returns the code and leaves the result as it was
unfoldable pub CallAnswers : {T : Type 0} (value : T → ℤ) (signed : Bool) (n : ℕ) → Result ℤ Code → Left T → Left T → ℤ → Type 0
CallAnswers value signed n (Ok x) old new code = (code ≡ pos 0) × (value new.0 ≡ wrap signed n x) × (new.1 ≡ side_number (side_of signed n x))
CallAnswers value signed n (Err refusal) old new code = (code ≡ code_number refusal) × (new ≡ old)

-- the call returns 0 and leaves the value, or returns the code and leaves the value as it was
unfoldable pub ValueAnswers : {V : Type 0} → Result V Code → V → V → ℤ → Type 0
ValueAnswers (Ok v) old new code = (code ≡ pos 0) × (new ≡ v)
ValueAnswers (Err refusal) old new code = (code ≡ code_number refusal) × (new ≡ old)
