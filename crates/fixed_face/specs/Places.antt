-- What a call over arrays answers: a code, and a value or a place.
use Rattle.std.specs.Prelude.{◌≡◌, ◌==◌, ℕ, ℤ, pos, List, length, Result, Ok, Err, if◌then◌else◌}
use Rattle.fixed_face.specs.declared.answer.Code.{Code}
use Rattle.fixed_face.specs.declared.answer.Code.TheVariants.{CountsDiffer, NoElement, OutOfRange}
use Rattle.fixed_face.specs.Answers.{code_number}

-- a value, or the place at which a number does not fit
abbrev pub Found : Type 0
Found = Result ℤ ℕ

-- the answer, or the code where the array has no element, or another number of them
unfoldable pub with_some : {T X : Type 0} → List T → Result X Code → Result X Code
with_some xs answer = if length xs == 0 then Err NoElement else answer

unfoldable pub with_as_many : {T X : Type 0} → List T → List T → Result X Code → Result X Code
with_as_many xs ys answer = if length xs == length ys then answer else Err CountsDiffer

-- the call returns 0 and leaves the value, or returns the code of a number that does not fit and leaves its place, or
-- returns another code; what it does not leave is as it was
unfoldable pub PlaceAnswers : {T : Type 0} (value : T → ℤ) → Result Found Code → T × ℕ → T × ℕ → ℤ → Type 0
PlaceAnswers value (Ok (Ok x)) old new code = (code ≡ pos 0) × (value new.0 ≡ x) × (new.1 ≡ old.1)
PlaceAnswers value (Ok (Err place)) old new code = (code ≡ code_number OutOfRange) × (new.0 ≡ old.0) × (new.1 ≡ place)
PlaceAnswers value (Err refusal) old new code = (code ≡ code_number refusal) × (new.0 ≡ old.0) × (new.1 ≡ old.1)
