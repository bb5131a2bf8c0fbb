-- The numbers that a call of an elementary function leaves.
use Rattle.std.proofs.Common.{◌≡◌, ◌⊎◌, ◌≤◌, ◌<ℤ◌, ℕ, ℤ, Bool, true, Option, Some, None, refl, ap, sym, ◌∙◌, inl, inr, pos, arith}
use Rattle.std.specs.Prelude.{int_lt}
use Rattle.std.specs.Option.{option_map}
use Rattle.std.proofs.lemmas.Int.{ints}
use Rattle.fixed_word.specs.Format.{highest}
use Rattle.fixed_word.specs.Policies.{checked}
use Rattle.fixed_turns.specs.Sines.{both}
use Rattle.fixed_face.specs.declared.answer.Code.TheVariants.{OutOfRange}
use Rattle.fixed_face.specs.Answers.{at_fraction, row_or}
use Rattle.fixed_face.specs.Near.{Allowed, NearAnswers, NearPairAnswers, NumberAnswers, PairAnswers, allowed, both_or, positive}
use Rattle.fixed_face.proofs.Choices.{first, fraction_is}

pub number_left : {T : Type 0} (value : T → ℤ) (row : Option ℤ) (found old : T) → option_map value (Some found) ≡ row → NumberAnswers value (row_or OutOfRange row) old found (pos 0)
unfolding NumberAnswers row_or
number_left value row found old e = rw (sym e) (refl, refl)

pub none_left : {T : Type 0} (value : T → ℤ) (row : Option ℤ) (old : T) (code : ℤ) → option_map value None ≡ row → code ≡ pos 5 → NumberAnswers value (row_or OutOfRange row) old old code
unfolding NumberAnswers row_or
none_left value row old code e is = rw (sym e) (is, refl)

past : (s : Bool) (n : ℕ) (x : ℤ) → highest s n <ℤ x → None ≡ checked s n (Some x)
past s n x h = grind (arith, ints)

-- two numbers that are equal, or lie above the range
pub same_left : (s : Bool) (n : ℕ) (x y : ℤ) (found : Option ℤ) → found ≡ checked s n (Some y) → (y ≡ x) ⊎ ((highest s n <ℤ y) × (highest s n <ℤ x)) → found ≡ checked s n (Some x)
same_left s n x y found f (inl e) = f ∙ ap (λ (z : ℤ). checked s n (Some z)) e
same_left s n x y found f (inr h) = f ∙ (sym (past s n y h.0) ∙ past s n x h.1)

-- ---- operands that are allowed
pub near_left : {T : Type 0} (value : T → ℤ) (s : Bool) (n : ℕ) (given : Allowed) (Is : ℤ → Type 0) (r : ℤ) (old new : T) (code : ℤ) → given ≡ allowed → Is r → NumberAnswers value (row_or OutOfRange (checked s n (Some r))) old new code → NearAnswers value s n given Is old new code
unfolding NearAnswers
near_left value s n given Is r old new code e is left = rw e (r, is, left)

pub pair_left : {T : Type 0} (value : T → ℤ) (s : Bool) (n : ℕ) (given : Allowed) (IsFirst IsSecond : ℤ → Type 0) (x y : ℤ) (old new : T × T) (code : ℤ) → given ≡ allowed → IsFirst x → IsSecond y
    → PairAnswers value (both_or OutOfRange (both (checked s n (Some x)) (checked s n (Some y)))) old new code → NearPairAnswers value s n given IsFirst IsSecond old new code
unfolding NearPairAnswers
pair_left value s n given IsFirst IsSecond x y old new code e first second left = rw e (x, y, first, second, left)

pub positive_is : (n f : ℕ) (a : ℤ) → f ≤ n → int_lt (pos 0) a ≡ true → at_fraction n f (positive a) ≡ allowed
unfolding positive
positive_is n f a l p = fraction_is n f _ l ∙ first (int_lt (pos 0) a) allowed _ p
