-- What a call that reads or writes a decimal answers.
use Rattle.std.specs.Prelude.{◌≡◌, ◌+◌, ◌++◌, ℕ, ℤ, Bool, true, false, pos, nat_lt, nat_le, List, [], ◌∷◌, drop, length, Result, Ok, Err, if◌then◌else◌}
use Rattle.fixed_decimal.specs.declared.error.DecimalError.{DecimalError}
use Rattle.fixed_decimal.specs.declared.error.DecimalError.TheVariants.{NoDigits, InvalidDigit, TooManyPoints, Overflow, Inexact}
use Rattle.fixed_face.specs.declared.answer.Code.{Code}
use Rattle.fixed_face.specs.declared.answer.Code.TheVariants as codes
use Rattle.fixed_face.specs.Answers.{code_number}

-- why a text is no decimal
abbrev pub text_code : DecimalError → Code
text_code NoDigits = codes.NoDigits
text_code (InvalidDigit place) = codes.InvalidDigit
text_code TooManyPoints = codes.TooManyPoints
text_code Overflow = codes.OutOfRange
text_code Inexact = codes.OutOfRange

-- the number of a text, or the code where it is no decimal
unfoldable pub or_code : Result ℤ DecimalError → Result ℤ Code
or_code (Ok x) = Ok x
or_code (Err fault) = Err (text_code fault)

-- the answer for at most 64 digits behind the point
unfoldable pub at_places : {X : Type 0} → ℕ → Result X Code → Result X Code
at_places places answer = if nat_le places 64 then answer else Err codes.TooManyPlaces

-- the text and a 0 behind it are put at the front of the buffer, if there is room for both
abbrev pub IsPut : Bool → List ℕ → List ℕ → List ℕ → ℤ → Type 0
IsPut true text old new code = (code ≡ pos 0) × (new ≡ text ++ 0 ∷ drop (length text + 1) old)
IsPut false text old new code = (code ≡ code_number codes.NoRoom) × (new ≡ old)

-- what a call leaves: the bytes of the buffer, and the length of the text
abbrev pub TextLeft : Type 0
TextLeft = List ℕ × ℕ

-- the text is put into the buffer and its length left, or the code of the refusal is returned and both are as they were
unfoldable pub TextAnswers : Result (List ℕ) Code → TextLeft → TextLeft → ℤ → Type 0
TextAnswers (Ok text) old new code = IsPut (nat_lt (length text) (length old.0)) text old.0 new.0 code × (new.1 ≡ length text)
TextAnswers (Err refusal) old new code = (code ≡ code_number refusal) × (new ≡ old)
