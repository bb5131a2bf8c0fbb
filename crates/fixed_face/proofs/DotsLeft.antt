-- What a dot product leaves.
use Rattle.std.proofs.Common.{◌≡◌, ◌≤◌, ◌∙◌, ℕ, ℤ, Bool, List, length, Result, Ok, Err, refl, inl, inr}
use Rattle.std.specs.Prelude.{◌==◌}
use Rattle.fixed_word.specs.Standing.{StandsFor}
use Rattle.fixed_word.specs.declared.outcome.Outcome.{Outcome}
use Rattle.fixed_block.specs.Dots.{SumsFit, exact_dot}
use Rattle.fixed_face.specs.declared.answer.Code.{Code}
use Rattle.fixed_face.specs.declared.answer.Code.TheVariants.{CountsDiffer, OutOfRange}
use Rattle.fixed_face.specs.Answers.{at_fraction}
use Rattle.fixed_face.specs.Dots.{IsDot}
use Rattle.fixed_face.specs.Near.{Allowed, allowed}
use Rattle.fixed_face.specs.Places.{with_as_many}
use Rattle.fixed_face.specs.Calls.{IsResultOf}
use Rattle.fixed_face.proofs.Choices.{eq_false, eq_true, first, fraction_is, second}

-- ---- the operands
pub are_allowed : {T : Type 0} (n f : ℕ) (xs ys : List T) → f ≤ n → length xs ≡ length ys → at_fraction n f (with_as_many xs ys allowed) ≡ allowed
unfolding with_as_many
are_allowed n f xs ys l e = fraction_is n f _ l ∙ first (length xs == length ys) allowed _ (eq_true (length xs) (length ys) e)

pub differ : {T : Type 0} (n f : ℕ) (xs ys : List T) → f ≤ n → (length xs ≡ length ys → ⊥) → at_fraction n f (with_as_many xs ys allowed) ≡ Err CountsDiffer
unfolding with_as_many
differ n f xs ys l e = fraction_is n f _ l ∙ second (length xs == length ys) allowed _ (eq_false (length xs) (length ys) e)

-- ---- the result, and what the call returns of it
pub product_found : {T : Type 0} (value : T → ℤ) (s : Bool) (n : ℕ) (operands : Allowed) (xs ys : List ℤ) (f : ℕ) (outcome : Outcome T) → operands ≡ allowed → StandsFor value s n (exact_dot xs ys f) outcome
    → (found : Result ℤ Code) × IsDot s operands xs ys f found × IsResultOf value s n found (Ok outcome)
unfolding IsDot IsResultOf
product_found value s n operands xs ys f outcome e stands = rw e (Ok (exact_dot xs ys f), inl refl, stands)

pub product_lost : {T : Type 0} (value : T → ℤ) (s : Bool) (n : ℕ) (operands : Allowed) (xs ys : List ℤ) (f : ℕ) → operands ≡ allowed → (SumsFit s xs ys → ⊥)
    → (found : Result ℤ Code) × IsDot s operands xs ys f found × IsResultOf value s n found (Err OutOfRange)
unfolding IsDot IsResultOf
product_lost value s n operands xs ys f e misfit = rw e (Err OutOfRange, inr (refl, misfit), refl)

pub product_refused : {T : Type 0} (value : T → ℤ) (s : Bool) (n : ℕ) (operands : Allowed) (xs ys : List ℤ) (f : ℕ) (code : Code) → operands ≡ Err code
    → (found : Result ℤ Code) × IsDot s operands xs ys f found × IsResultOf value s n found (Err code)
unfolding IsDot IsResultOf
product_refused value s n operands xs ys f code e = rw e (Err code, refl, refl)
