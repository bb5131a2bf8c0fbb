-- Texts whose number is a whole number of units.
use Rattle.std.proofs.Common.{◌≡◌, ◌==◌, ◌+◌, ◌*◌, ◌/◌, ◌%◌, ◌^◌, ◌<◌, ◌*ℤ◌, ◌++◌, ◌&&◌, ℕ, ℤ, zero, suc, pos, Bool, true, false, not, List, length, take, drop, None, Result, Ok, Err, if◌then◌else◌, refl, sym, ap, ◌∙◌, add-mul, mul_assoc, mul_right_comm, arith}
use Rattle.std.specs.Str.Parse.{digits_value, starts_with_minus, without_leading_sign}
use Rattle.std.proofs.Math.Nat.{mul-add-mod_self_right, one-le-pow}
use Rattle.std.proofs.lemmas.Bool.{ne_eqb}
use Rattle.std.proofs.lemmas.Bool.Decides.{nat_tests}
use Rattle.std.proofs.lemmas.Nat.{div-add-mod', div-mul-add, mod-mul-add}
use Rattle.fixed_word.specs.Format.{with_sign}
use Rattle.fixed_word.specs.declared.rounding.Rounding.{Rounding}
use Rattle.fixed_word.specs.declared.rounding.Rounding.TheVariants.{Zero}
use Rattle.fixed_kernel.specs.Rounded.{IsRounded, rounded}
use Rattle.fixed_kernel.proofs.Alikes.{signed_times}
use Rattle.fixed_kernel.proofs.RoundedLaws.{rounded_is}
use Rattle.std.proofs.lemmas.Int.{ints}
use Rattle.std.specs.Result.{result_and}
use Rattle.fixed_decimal.specs.declared.error.DecimalError.{DecimalError}
use Rattle.fixed_decimal.specs.declared.error.DecimalError.TheVariants.{Inexact}
use Rattle.fixed_decimal.specs.Decimal.{decimal_row, digits_in, exact_row, fault_in, is_exact_in, number_in, places_in, unless}
use Rattle.fixed_decimal.specs.inside.Reading.{IsPointAt}
use Rattle.fixed_decimal.proofs.Decided.{rounded_by_step}
use Rattle.fixed_decimal.proofs.Readings.{stepped_exact, unless_ok}
use Rattle.fixed_decimal.proofs.Runs.{value_join}

abbrev ok : ℤ → Result ℤ DecimalError
ok x = Ok x

-- ---- a text is read with the named rounding
pub rounded_law : (f : ℕ) (r : Rounding) (text : List ℕ) → fault_in text ≡ None
    → (a : ℤ) × (decimal_row text f r ≡ ok a) × IsRounded (number_in text *ℤ pos (2 ^ f)) (pos (10 ^ places_in (without_leading_sign text))) r a
rounded_law f r text free =
    let x = number_in text *ℤ pos (2 ^ f) in
    let p = places_in (without_leading_sign text) in
    let t = one-le-pow p 10 (omega arith) in
    let d = pos (10 ^ p) in
    (rounded x d r, ap (λ o. unless o (rounded x d r)) free, rounded_is x d r (λ e. omega (arith, ints)))

-- ---- a number read as exact
only_ok : (b : Bool) (row : Result ℤ DecimalError) (a : ℤ) → (if b then row else result_and row (Err Inexact)) ≡ ok a → (b ≡ true) × (row ≡ ok a)
only_ok true row a e = (refl, e)
only_ok false (Ok x) a e = absurd (cc)
only_ok false (Err f) a e = absurd (cc)

test_zero : (n : ℕ) → n == 0 ≡ true → n ≡ 0
test_zero n e = grind (arith, nat_tests, e)

pub exact_read_law : (a : ℤ) (f : ℕ) (text : List ℕ) → exact_row text f ≡ ok a → a *ℤ pos (10 ^ places_in (without_leading_sign text)) ≡ number_in text *ℤ pos (2 ^ f)
exact_read_law a f text e =
    let bytes = without_leading_sign text in
    let b = starts_with_minus text in
    let n = digits_value 10 (digits_in bytes) * 2 ^ f in
    let p = places_in bytes in
    let t = one-le-pow p 10 (omega arith) in
    let g = only_ok (is_exact_in bytes f) (decimal_row text f Zero) a e in
    let whole : n % 10 ^ p ≡ 0 = test_zero (n % 10 ^ p) g.0 in
    let units = signed_times b (digits_value 10 (digits_in bytes)) (2 ^ f) in
    let is : rounded (number_in text *ℤ pos (2 ^ f)) (pos (10 ^ p)) Zero ≡ a = unless_ok (fault_in text) (rounded (number_in text *ℤ pos (2 ^ f)) (pos (10 ^ p)) Zero) a g.1 in
    let size : a ≡ with_sign b (n / 10 ^ p) = sym is ∙ ap (λ (x : ℤ). rounded x (pos (10 ^ p)) Zero) units ∙ rounded_by_step Zero b n (10 ^ p) t ∙ ap (with_sign b) (stepped_exact Zero b n (10 ^ p) t whole) in
    let back : n / 10 ^ p * 10 ^ p ≡ n = omega (arith, div-add-mod' n (10 ^ p), whole) in
    ap (λ (x : ℤ). x *ℤ pos (10 ^ p)) size ∙ signed_times b (n / 10 ^ p) (10 ^ p) ∙ ap (with_sign b) back ∙ sym units

-- ---- what the reader sees of it: an even number of halves, and no rest
halved_even : (q d : ℕ) → 0 < d → q % d ≡ 0 → (2 * q / d % 2 ≡ 0) × (2 * q % d ≡ 0)
halved_even q d h z =
    let s = div-add-mod' q d in
    let m = mul_assoc 2 (q / d) d in
    let e : 2 * q ≡ 2 * (q / d) * d + 0 = omega arith in
    let half : 2 * q / d ≡ 2 * (q / d) = ap (λ n. n / d) e ∙ div-mul-add (2 * (q / d)) d 0 h in
    (omega (arith, half), ap (λ n. n % d) e ∙ mod-mul-add (2 * (q / d)) d 0 h)

even_whole : (q d : ℕ) → 0 < d → 2 * q / d % 2 ≡ 0 → 2 * q % d ≡ 0 → q % d ≡ 0
even_whole q d h even none =
    let s = div-add-mod' (2 * q) d in
    let n = 2 * q / d / 2 in
    let t : 2 * q / d ≡ 2 * n = omega arith in
    let u : 2 * q / d * d ≡ 2 * n * d = ap (λ x. x * d) t in
    let m = mul_assoc 2 n d in
    let e : q ≡ n * d + 0 = omega arith in
    ap (λ x. x % d) e ∙ mod-mul-add n d 0 h

both_tests : (a b c : ℕ) → (c ≡ 0 → (a ≡ 0) × (b ≡ 0)) → (a ≡ 0 → b ≡ 0 → c ≡ 0) → (a == 0 && not (not (b == 0))) ≡ (c == 0)
both_tests zero zero zero f g = refl
both_tests zero zero (suc c) f g = absurd (omega (arith, g refl refl))
both_tests zero (suc b) zero f g = absurd (omega (arith, (f refl).1))
both_tests zero (suc b) (suc c) f g = grind (arith, nat_tests)
both_tests (suc a) b zero f g = absurd (omega (arith, (f refl).0))
both_tests (suc a) b (suc c) f g = grind (arith, nat_tests)

pub exact_seen : (bytes part : List ℕ) (at f halves : ℕ) (rest : Bool) → IsPointAt bytes at → part ≡ drop (at + 1) bytes
    → halves ≡ 2 * (digits_value 10 part * 2 ^ f) / 10 ^ length part → rest ≡ not (2 * (digits_value 10 part * 2 ^ f) % 10 ^ length part == 0)
    → (halves % 2 == 0 && not rest) ≡ is_exact_in bytes f
exact_seen bytes part at f halves rest i epart ehalves erest =
    let whole = take at bytes in
    let back = drop (at + 1) bytes in
    let k = length back in
    let d = 10 ^ k in
    let t = one-le-pow k 10 (omega arith) in
    let q = digits_value 10 back * 2 ^ f in
    let w = digits_value 10 whole in
    let digits : digits_in bytes ≡ whole ++ back = ap (λ n. take n bytes ++ drop (n + 1) bytes) i.place in
    let places : places_in bytes ≡ k = ap (λ n. length (drop (n + 1) bytes)) i.place in
    let value : digits_value 10 (digits_in bytes) ≡ w * d + digits_value 10 back = ap (digits_value 10) digits ∙ value_join whole back in
    let units : digits_value 10 (digits_in bytes) * 2 ^ f ≡ w * 2 ^ f * d + q = ap (λ n. n * 2 ^ f) value ∙ add-mul (w * d) (digits_value 10 back) (2 ^ f) ∙ ap (λ n. n + q) (mul_right_comm w d (2 ^ f)) in
    let left : digits_value 10 (digits_in bytes) * 2 ^ f % 10 ^ places_in bytes ≡ q % d = ap (λ n. n % 10 ^ places_in bytes) units ∙ ap (λ n. (w * 2 ^ f * d + q) % 10 ^ n) places ∙ mul-add-mod_self_right (w * 2 ^ f) d q in
    ap (λ n. n % 2 == 0 && not rest) (ehalves ∙ ap (λ xs. 2 * (digits_value 10 xs * 2 ^ f) / 10 ^ length xs) epart)
    ∙ ap (λ b. 2 * q / d % 2 == 0 && not b) (erest ∙ ap (λ xs. not (2 * (digits_value 10 xs * 2 ^ f) % 10 ^ length xs == 0)) epart)
    ∙ both_tests (2 * q / d % 2) (2 * q % d) (q % d) (halved_even q d t) (even_whole q d t)
    ∙ ap (λ n. n == 0) (sym left)

pub seen_even : (halves : ℕ) (rest e : Bool) → halves % 2 ≡ 0 → (halves % 2 == 0 && not rest) ≡ e → not rest ≡ e
seen_even halves rest e z s = sym (ap (λ n. n == 0 && not rest) z) ∙ s

pub seen_odd : (halves : ℕ) (rest e : Bool) → (halves % 2 ≡ 0 → ⊥) → (halves % 2 == 0 && not rest) ≡ e → (halves % 2 == 0) ≡ e
seen_odd halves rest e z s = let f = ne_eqb (halves % 2) 0 z in f ∙ sym (ap (λ b. b && not rest) f) ∙ s
