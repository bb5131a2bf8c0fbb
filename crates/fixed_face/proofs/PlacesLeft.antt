-- The value or the place that a call over arrays leaves.
use Rattle.std.proofs.Common.{◌≡◌, ◌≤◌, ◌∙◌, ℕ, ℤ, Bool, false, List, length, map, Result, Ok, Err, refl, ap, pos}
use Rattle.std.specs.Prelude.{◌==◌}
use Rattle.fixed_poly.specs.declared.reply.PolyReply.{PolyReply}
use Rattle.fixed_poly.specs.declared.reply.PolyReply.TheVariants as poly
use Rattle.fixed_poly.specs.Horner.{horner_reply}
use Rattle.fixed_filter.specs.declared.reply.Reply.{Reply}
use Rattle.fixed_filter.specs.declared.reply.Reply.TheVariants as filter
use Rattle.fixed_filter.specs.declared.shape.Shape.{Shape}
use Rattle.fixed_filter.specs.Banks.{Filter, IsShape, reply_of, with_sample}
use Rattle.fixed_face.specs.declared.answer.Code.{Code}
use Rattle.fixed_face.specs.Places.{Found, PlaceAnswers, with_as_many, with_some}
use Rattle.fixed_face.specs.Polynomials.{horner_in, value_or_step}
use Rattle.fixed_face.specs.Filters.{kept_or, output_in, output_or_tap, past_after, taking}
use Rattle.fixed_face.proofs.Choices.{eq_true, first, fraction_is, second}

-- ---- what is left
pub value_left : {T : Type 0} (value : T → ℤ) (given : Result Found Code) (x : T) (old : T × ℕ) → given ≡ Ok (Ok (value x)) → PlaceAnswers value given old (x, old.1) (pos 0)
unfolding PlaceAnswers
value_left value given x old h = rw h (refl, refl, refl)

pub place_left : {T : Type 0} (value : T → ℤ) (given : Result Found Code) (i : ℕ) (old : T × ℕ) (code : ℤ) → given ≡ Ok (Err i) → code ≡ pos 5 → PlaceAnswers value given old (old.0, i) code
unfolding PlaceAnswers
place_left value given i old code h k = rw h (k, refl, refl)

-- ---- the arrays
some_is : {T X : Type 0} (xs : List T) (answer : Result X Code) → (length xs == 0) ≡ false → with_some xs answer ≡ answer
unfolding with_some
some_is xs answer p = second (length xs == 0) _ answer p

as_many_is : {T X : Type 0} (xs ys : List T) (answer : Result X Code) → length xs ≡ length ys → with_as_many xs ys answer ≡ answer
unfolding with_as_many
as_many_is xs ys answer e = first (length xs == length ys) answer _ (eq_true (length xs) (length ys) e)

-- ---- polynomials
pub horner_is : {T : Type 0} (value : T → ℤ) (s : Bool) (n f : ℕ) (x : T) (coefs : List T) → f ≤ n → (length coefs == 0) ≡ false → horner_in value s n f x coefs ≡ Ok (value_or_step (horner_reply s n f (value x) (map value coefs)))
unfolding horner_in
horner_is value s n f x coefs l p = fraction_is n f _ l ∙ some_is coefs _ p

pub value_is : (r : PolyReply ℤ) (x : ℤ) → poly.Value x ≡ r → value_or_step r ≡ Ok x
unfolding value_or_step
value_is (poly.Value v) x h = cc
value_is (poly.Overflow i) x h = absurd (cc)

pub step_is : (r : PolyReply ℤ) (i : ℕ) → poly.Overflow i ≡ r → value_or_step r ≡ Err i
unfolding value_or_step
step_is (poly.Overflow j) i h = cc
step_is (poly.Value v) i h = absurd (cc)

-- ---- filters
taking_is : {T X : Type 0} (n : ℕ) (shape : Shape) (filter : Filter T) (answer : Result X Code) → IsShape n shape → (length filter.taps == 0) ≡ false → length filter.taps ≡ length filter.past → taking n shape filter answer ≡ answer
unfolding taking
taking_is n shape filter answer h p e = fraction_is n shape.out_frac _ h.0 ∙ (fraction_is n shape.coef_frac _ h.1 ∙ (fraction_is n shape.sample_frac _ h.2 ∙ (some_is filter.taps _ p ∙ as_many_is filter.taps filter.past answer e)))

pub output_is : {T : Type 0} (value : T → ℤ) (s : Bool) (n : ℕ) (shape : Shape) (sample : T) (filter : Filter T) → IsShape n shape → (length filter.taps == 0) ≡ false → length filter.taps ≡ length filter.past → output_in value s n shape sample filter ≡ Ok (output_or_tap (reply_of value s n shape (with_sample sample filter)))
unfolding output_in
output_is value s n shape sample filter h p e = taking_is n shape filter _ h p e

pub past_is : {T : Type 0} (n : ℕ) (shape : Shape) (sample : T) (filter : Filter T) → IsShape n shape → (length filter.taps == 0) ≡ false → length filter.taps ≡ length filter.past → past_after n shape sample filter ≡ (with_sample sample filter).past
unfolding past_after
past_is n shape sample filter h p e = ap (kept_or filter.past) (taking_is n shape filter (Ok (with_sample sample filter).past) h p e)

pub output_found : (r : Reply ℤ) (x : ℤ) → filter.Value x ≡ r → output_or_tap r ≡ Ok x
unfolding output_or_tap
output_found (filter.Value v) x h = cc
output_found (filter.Overflow i) x h = absurd (cc)

pub tap_found : (r : Reply ℤ) (i : ℕ) → filter.Overflow i ≡ r → output_or_tap r ≡ Err i
unfolding output_or_tap
tap_found (filter.Overflow j) i h = cc
tap_found (filter.Value v) i h = absurd (cc)
