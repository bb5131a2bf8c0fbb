-- What a call over intervals answers: a code, and two ends where the code is 0.
-- signed and n are the word, and f is the fraction.
use Rattle.std.specs.Prelude.{◌≡◌, ◌&&◌, ℕ, ℤ, Bool, pos, int_lt, Result, Ok, Err, if◌then◌else◌}
use Rattle.fixed_word.specs.Format.{fits}
use Rattle.fixed_interval.specs.Ends.{Bounds, Ends, difference_of, ends_of, has_zero, product_of, quotient_of, root_of_ends, sum_of}
use Rattle.fixed_face.specs.declared.answer.Code.{Code}
use Rattle.fixed_face.specs.declared.answer.Code.TheVariants.{EndsExchanged, NegativeRoot, OutOfRange, ZeroDivisor}
use Rattle.fixed_face.specs.Answers.{at_fraction, code_number}

-- an operand from its low end to its high one
abbrev pub from_to : ℤ → ℤ → Ends
from_to low high = record { low = low; high = high }

-- ---- the answer, or the code where this does not hold of the ends
-- the low end is at most the high one
unfoldable pub in_order : Ends → Result Ends Code → Result Ends Code
in_order a answer = if int_lt a.high a.low then Err EndsExchanged else answer

-- 0 lies outside
unfoldable pub without_zero : Ends → Result Ends Code → Result Ends Code
without_zero b answer = if has_zero b then Err ZeroDivisor else answer

-- no number is below 0
unfoldable pub from_zero : Ends → Result Ends Code → Result Ends Code
from_zero a answer = if int_lt a.low (pos 0) then Err NegativeRoot else answer

-- both ends fit
unfoldable pub in_word : Bool → ℕ → Ends → Result Ends Code
in_word signed n e = if fits signed n e.low && fits signed n e.high then Ok e else Err OutOfRange

-- ---- the operations
unfoldable pub sum_in : Bool → ℕ → Ends → Ends → Result Ends Code
sum_in signed n a b = in_order a (in_order b (in_word signed n (sum_of a b)))

unfoldable pub difference_in : Bool → ℕ → Ends → Ends → Result Ends Code
difference_in signed n a b = in_order a (in_order b (in_word signed n (difference_of a b)))

unfoldable pub product_in : Bool → ℕ → Ends → Ends → ℕ → Result Ends Code
product_in signed n a b f = at_fraction n f (in_order a (in_order b (in_word signed n (product_of a b f))))

unfoldable pub quotient_in : Bool → ℕ → Ends → Ends → ℕ → Result Ends Code
quotient_in signed n a b f = at_fraction n f (in_order a (in_order b (without_zero b (in_word signed n (quotient_of a b f)))))

unfoldable pub root_in : Bool → ℕ → Ends → ℕ → Result Ends Code
root_in signed n a f = at_fraction n f (in_order a (from_zero a (in_word signed n (root_of_ends a f))))

-- ---- the call returns 0 and leaves the ends, or returns the code and leaves the result as it was
unfoldable pub EndsAnswers : {T : Type 0} (value : T → ℤ) → Result Ends Code → Bounds T → Bounds T → ℤ → Type 0
EndsAnswers value (Ok e) old new code = (code ≡ pos 0) × (ends_of value new ≡ e)
EndsAnswers value (Err refusal) old new code = (code ≡ code_number refusal) × (new ≡ old)
