-- What a call answers that leaves one number, or two, of which the contract knows a property.
-- signed and n are the word.
use Rattle.std.specs.Prelude.{◌≡◌, ◌&&◌, ℕ, ℤ, Bool, pos, int_lt, Option, Some, None, Result, Ok, Err, if◌then◌else◌}
use Rattle.std.specs.Ordering.{int_eq}
use Rattle.std.specs.Bool.{⊤}
use Rattle.fixed_word.specs.Policies.{checked}
use Rattle.fixed_turns.specs.Sines.{both}
use Rattle.fixed_face.specs.declared.answer.Code.{Code}
use Rattle.fixed_face.specs.declared.answer.Code.TheVariants.{NoAngle, NotPositive, OutOfRange}
use Rattle.fixed_face.specs.Answers.{code_number, row_or}

-- the operands are allowed, or the code of the refusal
abbrev pub Allowed : Type 0
Allowed = Result ⊤ Code

abbrev pub allowed : Allowed
allowed = Ok tt

-- those for which a is above 0
unfoldable pub positive : ℤ → Allowed
positive a = if int_lt (pos 0) a then allowed else Err NotPositive

-- those for which (x, y) is not the origin
unfoldable pub off_origin : ℤ → ℤ → Allowed
off_origin y x = if int_eq y (pos 0) && int_eq x (pos 0) then Err NoAngle else allowed

-- the call returns 0 and leaves the number, or returns the code and leaves the number as it was
unfoldable pub NumberAnswers : {T : Type 0} (value : T → ℤ) → Result ℤ Code → T → T → ℤ → Type 0
NumberAnswers value (Ok x) old new code = (code ≡ pos 0) × (value new ≡ x)
NumberAnswers value (Err refusal) old new code = (code ≡ code_number refusal) × (new ≡ old)

-- for operands that are allowed a number has the property, and the call leaves it, or returns that it does not fit
unfoldable pub NearAnswers : {T : Type 0} (value : T → ℤ) (signed : Bool) (n : ℕ) → Allowed → (ℤ → Type 0) → T → T → ℤ → Type 0
NearAnswers value signed n (Ok _) Is old new code = (r : ℤ) × Is r × NumberAnswers value (row_or OutOfRange (checked signed n (Some r))) old new code
NearAnswers value signed n (Err refusal) Is old new code = (code ≡ code_number refusal) × (new ≡ old)

-- ---- two numbers
-- both, or the code where one is missing
unfoldable pub both_or : Code → Option (ℤ × ℤ) → Result (ℤ × ℤ) Code
both_or code None = Err code
both_or code (Some numbers) = Ok numbers

-- the call returns 0 and leaves both, or returns the code and leaves both as they were
unfoldable pub PairAnswers : {T : Type 0} (value : T → ℤ) → Result (ℤ × ℤ) Code → T × T → T × T → ℤ → Type 0
PairAnswers value (Ok numbers) old new code = (code ≡ pos 0) × (value new.0 ≡ numbers.0) × (value new.1 ≡ numbers.1)
PairAnswers value (Err refusal) old new code = (code ≡ code_number refusal) × (new.0 ≡ old.0) × (new.1 ≡ old.1)

-- for operands that are allowed two numbers have their properties, and the call leaves both, or returns that one does not fit
unfoldable pub NearPairAnswers : {T : Type 0} (value : T → ℤ) (signed : Bool) (n : ℕ) → Allowed → (ℤ → Type 0) → (ℤ → Type 0) → T × T → T × T → ℤ → Type 0
NearPairAnswers value signed n (Ok _) IsFirst IsSecond old new code =
    (r s : ℤ) × IsFirst r × IsSecond s × PairAnswers value (both_or OutOfRange (both (checked signed n (Some r)) (checked signed n (Some s)))) old new code
NearPairAnswers value signed n (Err refusal) IsFirst IsSecond old new code = (code ≡ code_number refusal) × (new.0 ≡ old.0) × (new.1 ≡ old.1)
