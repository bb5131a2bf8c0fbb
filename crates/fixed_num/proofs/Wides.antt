-- Products and quotients in a word of twice the width.
use Rattle.std.proofs.Common.{◌≡◌, ◌≢◌, ◌+◌, ◌-◌, ◌*◌, ◌/◌, ◌%◌, ◌^◌, ◌<◌, ◌≤◌, ◌*ℤ◌, ◌<ℤ◌, ℕ, ℤ, zero, suc, Bool, true, false, pos, negsuc, neg_ℤ, nat_abs, refl, ap, sym, ◌∙◌, arith, inl, inr}
use Rattle.std.proofs.lemmas.Int.{ints}
use Rattle.std.specs.Prelude.{◌↔◌, IsTrue, not}
use mathlib.Core.Bool.{beq}
use Rattle.fixed_bits.proofs.Words.{moved_up, sign_is}
use Rattle.std.proofs.lemmas.Bool.{cases_lt}
use Rattle.std.proofs.lemmas.Nat.{pow_pos, pow-add, mul-le, mul-lt, shl_whole}
use Rattle.std.proofs.Math.IntN.{*ℤ_comm}
use Rattle.std.proofs.Math.Nat.{mul_comm, div-le_self, mul-div-le}
use Rattle.fixed_word.specs.Format.{IsWidth, InRange, lowest, wrap, with_sign}
use Rattle.fixed_word.specs.Quotient.{truncated_quotient}
use Rattle.fixed_word.proofs.Wraps.{double, neg-times, width_pos, wrap_same}
use Rattle.fixed_word.proofs.QuotientLaws.{truncated_quotient_is}

-- ---- sizes of products

abs_times : (a b : ℤ) → nat_abs (a *ℤ b) ≡ nat_abs a * nat_abs b
abs_times (pos a) (pos b) = refl
abs_times (pos zero) (negsuc b) = grind (arith, ints)
abs_times (pos (suc a)) (negsuc b) = grind (arith, ints)
abs_times (negsuc a) (pos zero) = grind (arith, ints)
abs_times (negsuc a) (pos (suc b)) = grind (arith, ints)
abs_times (negsuc a) (negsuc b) = refl

-- the powers of a width n that is p = 2 ^ (n - 1) and of its double
powers : (n : ℕ) → 0 < n → (2 ^ n ≡ 2 * 2 ^ (n - 1)) × (2 ^ (2 * n) ≡ 2 * 2 ^ (n - 1) * (2 * 2 ^ (n - 1))) × (2 ^ (2 * n - 1) ≡ 2 * (2 ^ (n - 1) * 2 ^ (n - 1)))
powers n h =
    let d : 2 ^ n ≡ 2 * 2 ^ (n - 1) = omega (arith, double n h) in
    let e : 2 * n ≡ n + n = omega arith in
    let f : 2 * n - 1 ≡ n + (n - 1) = omega arith in
    (d, rw e (pow-add 2 n n ∙ rw d refl), rw f (pow-add 2 n (n - 1) ∙ rw d (regroup (2 ^ (n - 1)))))
  where
    regroup : (p : ℕ) → 2 * p * p ≡ 2 * (p * p)
    regroup p = grind arith

-- what is small enough fits a signed word
small_fits : (n : ℕ) (x : ℤ) → nat_abs x < 2 ^ (n - 1) → InRange true n x
small_fits n x h = (omega (arith, ints), omega (arith, ints))

size_signed : (n : ℕ) (x : ℤ) → InRange true n x → nat_abs x ≤ 2 ^ (n - 1)
size_signed n x r = let p = pow_pos (n - 1) in let a = r.0 in let b = r.1 in omega (arith, ints)

size_unsigned : (n : ℕ) (x : ℤ) → InRange false n x → nat_abs x ≤ 2 ^ n - 1
size_unsigned n x r = let p = pow_pos n in let a = r.0 in let b = r.1 in omega (arith, ints)

-- p p, p (2 p - 1) < 2 p p
half_small : (p a b : ℕ) → 0 < p → a ≤ p → b ≤ 2 * p - 1 → a * b < 2 * (p * p)
half_small p a b z h k =
    let t = mul-le a b p (2 * p - 1) h k in
    let e : p * (2 * p - 1) + p ≡ 2 * (p * p) = last p z in
    omega arith
  where
    last : (p : ℕ) → 0 < p → p * (2 * p - 1) + p ≡ 2 * (p * p)
    last zero z = absurd (omega arith)
    last (suc q) z = let e : 2 * suc q - 1 ≡ q + q + 1 = omega arith in rw e (grind arith)

whole_small : (p a b : ℕ) → 0 < p → a ≤ 2 * p - 1 → b ≤ 2 * p → a * b < 2 * p * (2 * p)
whole_small p a b z h k =
    let t = mul-le a b (2 * p - 1) (2 * p) h k in
    let e : (2 * p - 1) * (2 * p) + 2 * p ≡ 2 * p * (2 * p) = last (2 * p) (omega arith) in
    omega arith
  where
    last : (q : ℕ) → 0 < q → (q - 1) * q + q ≡ q * q
    last zero z = absurd (omega arith)
    last (suc q) z = let e : suc q - 1 ≡ q = omega arith in rw e (grind arith)

-- ---- products

pub signed_product : (n : ℕ) (a b : ℤ) → IsWidth n → nat_abs a ≤ 2 ^ (n - 1) → nat_abs b ≤ 2 ^ n - 1 → InRange true (2 * n) (a *ℤ b)
signed_product n a b w h k =
    let q = powers n (width_pos n w) in
    let d = q.0 in
    let e = q.2 in
    small_fits (2 * n) (a *ℤ b) (rw (abs_times a b, e) (half_small (2 ^ (n - 1)) (nat_abs a) (nat_abs b) (pow_pos (n - 1)) h (omega arith)))

unsigned_product : (n a b : ℕ) → IsWidth n → a ≤ 2 ^ n - 1 → b ≤ 2 ^ n - 1 → InRange false (2 * n) (pos (a * b))
unsigned_product n a b w h k =
    let q = powers n (width_pos n w) in
    let d = q.0 in
    let e = q.1 in
    let t : a * b < 2 * 2 ^ (n - 1) * (2 * 2 ^ (n - 1)) = whole_small (2 ^ (n - 1)) a b (pow_pos (n - 1)) (omega arith) (omega arith) in
    (omega (arith, ints), omega (arith, ints))

product_fits : (s : Bool) (n : ℕ) (a b : ℤ) → IsWidth n → InRange s n a → InRange s n b → InRange s (2 * n) (a *ℤ b)
product_fits true n a b w i j =
    let d = double n (width_pos n w) in
    let p = pow_pos (n - 1) in
    let k = size_signed n b j in
    signed_product n a b w (size_signed n a i) (omega arith)
product_fits false n (pos a) (pos b) w i j = unsigned_product n a b w (size_unsigned n (pos a) i) (size_unsigned n (pos b) j)
product_fits false n (negsuc a) b w i j = let l = i.0 in absurd (omega (arith, ints))
product_fits false n (pos a) (negsuc b) w i j = let l = j.0 in absurd (omega (arith, ints))

kept : (s : Bool) (n : ℕ) (x r : ℤ) → IsWidth n → InRange s (2 * n) x → r ≡ wrap s (2 * n) x → r ≡ x
kept s n x r w i e = let z = width_pos n w in e ∙ wrap_same s (2 * n) x (omega arith) i

pub wide_product : (s s' : Bool) (n n' : ℕ) (a b r : ℤ) → IsWidth n → n' ≡ 2 * n → s' ≡ s → InRange s n a → InRange s n b → r ≡ wrap s' n' (a *ℤ b) → r ≡ a *ℤ b
wide_product s s' n n' a b r w d g i j e = kept s n (a *ℤ b) r w (product_fits s n a b w i j) (rw (d, g) at e)

pub wide_product_unsigned : (s s' t : Bool) (n n' m : ℕ) (a b r : ℤ) → IsWidth n → n' ≡ 2 * n → m ≡ n → s ≡ true → s' ≡ s → t ≡ false → InRange s n a → InRange t m b → r ≡ wrap s' n' (a *ℤ b) → r ≡ a *ℤ b
wide_product_unsigned s s' t n n' m a b r w d c x g y i j e =
    let i' : InRange true n a = rw x at i in
    let j' : InRange false n b = rw (y, c) at j in
    kept true n (a *ℤ b) r w (signed_product n a b w (size_signed n a i') (size_unsigned n b j')) (rw (d, g, x) at e)

pub wide_product_signed : (s s' t : Bool) (n n' m : ℕ) (a b r : ℤ) → IsWidth n → n' ≡ 2 * n → m ≡ n → s ≡ false → s' ≡ true → t ≡ true → InRange s n a → InRange t m b → r ≡ wrap s' n' (a *ℤ b) → r ≡ a *ℤ b
wide_product_signed s s' t n n' m a b r w d c x g y i j e =
    let i' : InRange false n a = rw x at i in
    let j' : InRange true n b = rw (y, c) at j in
    kept true n (a *ℤ b) r w (swapped n a b w i' j') (rw (d, g) at e)
  where
    swapped : (n : ℕ) (a b : ℤ) → IsWidth n → InRange false n a → InRange true n b → InRange true (2 * n) (a *ℤ b)
    swapped n a b w i j = rw (*ℤ_comm a b) (signed_product n b a w (size_signed n b j) (size_unsigned n a i))

-- ---- quotients

-- by sign and magnitude
pub trunc_signed : (b c : Bool) (x y : ℕ) → 0 < y → truncated_quotient (with_sign b x) (with_sign c y) ≡ with_sign (not (beq b c)) (x / y)
trunc_signed b c x zero h = absurd (omega arith)
trunc_signed false false x (suc y) h = refl
trunc_signed false true x (suc y) h = refl
trunc_signed true false zero (suc y) h = omega (arith, ints)
trunc_signed true false (suc x) (suc y) h = refl
trunc_signed true true zero (suc y) h = omega (arith, ints)
trunc_signed true true (suc x) (suc y) h = refl

pub quotient_is : (s : Bool) (n : ℕ) (ab bb : Bool) (am bm k : ℕ) (a b r : ℤ) → (IsTrue ab ↔ (a <ℤ pos 0)) → am ≡ nat_abs a → am < 2 ^ 64 → (IsTrue bb ↔ (b <ℤ pos 0)) → bm ≡ nat_abs b → b ≢ pos 0 → k ≤ 32
    → r ≡ wrap s n (with_sign (not (beq ab bb)) ((am * 2 ^ k) % 2 ^ 128 / bm)) → r ≡ wrap s n (truncated_quotient (a *ℤ pos (2 ^ k)) b)
quotient_is s n ab bb am bm k a b r ga ea la gb eb z h e =
    let da = sign_is ab am a ga ea in
    let db = sign_is bb bm b gb eb in
    let y : 0 < bm = positive bb bm b db z in
    let q : with_sign (not (beq ab bb)) (am * 2 ^ k / bm) ≡ truncated_quotient (a *ℤ pos (2 ^ k)) b = rw (da, db) (rw (← moved_up ab am k) (sym (trunc_signed ab bb (am * 2 ^ k) bm y))) in
    e ∙ ap (λ (x : ℕ). wrap s n (with_sign (not (beq ab bb)) (x / bm))) (shl_whole am 64 k 128 la (omega arith)) ∙ ap (wrap s n) q
  where
    positive : (c : Bool) (m : ℕ) (b : ℤ) → b ≡ with_sign c m → b ≢ pos 0 → 0 < m
    positive false zero b e z = absurd (z e)
    positive true zero b e z = absurd (z e)
    positive c (suc m) b e z = omega arith

-- of the magnitudes
size_over : (x b : ℤ) → b ≢ pos 0 → nat_abs (truncated_quotient x b) ≡ nat_abs x / nat_abs b
size_over x b z = let t = truncated_quotient_is x b z in let s = t.size in omega (arith, ints)

size_at_most : (x b : ℤ) → b ≢ pos 0 → nat_abs (truncated_quotient x b) ≤ nat_abs x
size_at_most x b z = rw (size_over x b z) (div-le_self (nat_abs x) (nat_abs b))

small_quotient : (n : ℕ) (a b : ℤ) → IsWidth n → b ≢ pos 0 → nat_abs a ≤ 2 ^ n - 1 → InRange true (2 * n) (truncated_quotient (a *ℤ pos (2 ^ (n - 1))) b)
small_quotient n a b w z h =
    let q = powers n (width_pos n w) in
    let d = q.0 in
    let e = q.2 in
    let t = size_at_most (a *ℤ pos (2 ^ (n - 1))) b z in
    let s = abs_times a (pos (2 ^ (n - 1))) in
    let u = half_small (2 ^ (n - 1)) (2 ^ (n - 1)) (nat_abs a) (pow_pos (n - 1)) (omega arith) (omega arith) in
    let v = mul_comm (nat_abs a) (2 ^ (n - 1)) in
    small_fits (2 * n) (truncated_quotient (a *ℤ pos (2 ^ (n - 1))) b) (omega arith)

unsigned_quotient : (n : ℕ) (a b : ℤ) → IsWidth n → b ≢ pos 0 → InRange false n a → InRange false n b → InRange false (2 * n) (truncated_quotient (a *ℤ pos (2 ^ n)) b)
unsigned_quotient n (negsuc a) b w z i j = let l = i.0 in absurd (omega (arith, ints))
unsigned_quotient n (pos a) (negsuc b) w z i j = let l = j.0 in absurd (omega (arith, ints))
unsigned_quotient n (pos a) (pos b) w z i j =
    let q = powers n (width_pos n w) in
    let d = q.0 in
    let e = q.1 in
    let h = size_unsigned n (pos a) i in
    let t : a * 2 ^ n < 2 * 2 ^ (n - 1) * (2 * 2 ^ (n - 1)) = whole_small (2 ^ (n - 1)) a (2 ^ n) (pow_pos (n - 1)) (omega arith) (omega arith) in
    let u = div-le_self (a * 2 ^ n) b in
    (omega (arith, ints), omega (arith, ints))

-- the quotient of p 2 p or less, where it is not small
full_size : (p x b : ℕ) → 0 < p → x ≤ p → 0 < b → 2 * (p * p) ≤ x * (2 * p) / b → (x ≡ p) × (b ≡ 1)
full_size p x b z h y t =
    let u = div-le_self (x * (2 * p)) b in
    let all : x ≡ p = at_most p x z h (omega arith) in
    (all, divisor p b z y (rw all at t))
  where
    at_most : (p x : ℕ) → 0 < p → x ≤ p → 2 * (p * p) ≤ x * (2 * p) → x ≡ p
    at_most p x z h t = elim (cases_lt x p) [
      | inl below ↦
          let m = mul-le (x + 1) (2 * p) p (2 * p) (omega arith) (omega arith) in
          let e : (x + 1) * (2 * p) ≡ x * (2 * p) + 2 * p = grind arith in
          let f : p * (2 * p) ≡ 2 * (p * p) = grind arith in
          absurd (omega arith)
      | inr above ↦ omega arith
    ]

    divisor : (p b : ℕ) → 0 < p → 0 < b → 2 * (p * p) ≤ p * (2 * p) / b → b ≡ 1
    divisor p b z y t = elim (cases_lt 1 b) [
      | inl large ↦
          let f : p * (2 * p) ≡ 2 * (p * p) = grind arith in
          let m = mul-le 2 (2 * (p * p)) b (p * (2 * p) / b) large t in
          let d : b * (p * (2 * p) / b) ≤ p * (2 * p) = mul-div-le (p * (2 * p)) b in
          let s = mul-lt 0 0 p p z z in
          absurd (omega arith)
      | inr small ↦ omega arith
    ]

whole_quotient : (n : ℕ) (a b : ℤ) → IsWidth n → b ≢ pos 0 → InRange true n a → (b ≡ negsuc 0 → a ≢ lowest true n) → InRange true (2 * n) (truncated_quotient (a *ℤ pos (2 ^ n)) b)
whole_quotient n a b w z i f =
    let q = powers n (width_pos n w) in
    let d : 2 ^ n ≡ 2 * 2 ^ (n - 1) = q.0 in
    let e : 2 ^ (2 * n - 1) ≡ 2 * (2 ^ (n - 1) * 2 ^ (n - 1)) = q.2 in
    let p = pow_pos (n - 1) in
    let h = size_signed n a i in
    let s : nat_abs (truncated_quotient (a *ℤ pos (2 ^ n)) b) ≡ nat_abs a * (2 * 2 ^ (n - 1)) / nat_abs b = size_over (a *ℤ pos (2 ^ n)) b z ∙ ap (λ (x : ℕ). x / nat_abs b) (abs_times a (pos (2 ^ n)) ∙ ap (λ (x : ℕ). nat_abs a * x) d) in
    let y : 0 < nat_abs b = not_zero b z in
    elim (cases_lt (nat_abs (truncated_quotient (a *ℤ pos (2 ^ n)) b)) (2 ^ (2 * n - 1))) [
      | inl below ↦ small_fits (2 * n) (truncated_quotient (a *ℤ pos (2 ^ n)) b) below
      | inr above ↦
          let g = full_size (2 ^ (n - 1)) (nat_abs a) (nat_abs b) p h y (omega arith) in
          let ga : nat_abs a ≡ 2 ^ (n - 1) = g.0 in
          let gb : nat_abs b ≡ 1 = g.1 in
          let high = i.1 in
          let low : a ≡ lowest true n = omega (arith, ints) in
          let one : b ≡ pos 1 = only_one b gb (λ k. f k low) in
          least_fits n a b d e low one
    ]
  where
    not_zero : (b : ℤ) → b ≢ pos 0 → 0 < nat_abs b
    not_zero (pos zero) z = absurd (z refl)
    not_zero (pos (suc b)) z = omega arith
    not_zero (negsuc b) z = omega arith

    only_one : (b : ℤ) → nat_abs b ≡ 1 → b ≢ negsuc 0 → b ≡ pos 1
    only_one (pos b) e f = omega (arith, ints)
    only_one (negsuc b) e f = absurd (f (omega (arith, ints)))

    twice : (p : ℕ) → p * (2 * p) ≡ 2 * (p * p)
    twice p = grind arith

    least_fits : (n : ℕ) (a b : ℤ) → 2 ^ n ≡ 2 * 2 ^ (n - 1) → 2 ^ (2 * n - 1) ≡ 2 * (2 ^ (n - 1) * 2 ^ (n - 1)) → a ≡ lowest true n → b ≡ pos 1 → InRange true (2 * n) (truncated_quotient (a *ℤ pos (2 ^ n)) b)
    least_fits n a b d e l o =
        let p = 2 ^ (n - 1) in
        let x : a *ℤ pos (2 ^ n) ≡ neg_ℤ (pos (p * 2 ^ n)) = ap (λ (y : ℤ). y *ℤ pos (2 ^ n)) l ∙ neg-times p (2 ^ n) in
        let q : truncated_quotient (a *ℤ pos (2 ^ n)) b ≡ neg_ℤ (pos (p * 2 ^ n / 1)) = rw (x, o) (trunc_signed true false (p * 2 ^ n) 1 (omega arith)) in
        let m : p * 2 ^ n ≡ 2 * (p * p) = rw d (twice p) in
        rw q (omega (arith, ints), omega (arith, ints))

pub quotient_kept : (s' : Bool) (n n' k m : ℕ) (s : Bool) (a b r : ℤ) → IsWidth n → n' ≡ 2 * n → s' ≡ s → k ≡ m → InRange s (2 * n) (truncated_quotient (a *ℤ pos (2 ^ m)) b)
    → r ≡ wrap s' n' (truncated_quotient (a *ℤ pos (2 ^ k)) b) → r ≡ truncated_quotient (a *ℤ pos (2 ^ m)) b
quotient_kept s' n n' k m s a b r w d g c i e = kept s n (truncated_quotient (a *ℤ pos (2 ^ m)) b) r w i (rw (d, g, c) at e)

pub wide_quotient : (s s' : Bool) (n n' k : ℕ) (a b r : ℤ) → IsWidth n → n' ≡ 2 * n → s' ≡ s → k ≡ n → b ≢ pos 0 → (s ≡ true → b ≡ negsuc 0 → a ≢ lowest s n) → InRange s n a → InRange s n b
    → r ≡ wrap s' n' (truncated_quotient (a *ℤ pos (2 ^ k)) b) → r ≡ truncated_quotient (a *ℤ pos (2 ^ n)) b
wide_quotient true s' n n' k a b r w d g c z f i j e = quotient_kept s' n n' k n true a b r w d g c (whole_quotient n a b w z i (f refl)) e
wide_quotient false s' n n' k a b r w d g c z f i j e = quotient_kept s' n n' k n false a b r w d g c (unsigned_quotient n a b w z i j) e

pub wide_quotient_unsigned : (s s' t : Bool) (n n' k m : ℕ) (a b r : ℤ) → IsWidth n → n' ≡ 2 * n → m ≡ n → s ≡ true → s' ≡ s → t ≡ false → k ≡ n → b ≢ pos 0 → InRange s n a → InRange t m b
    → r ≡ wrap s' n' (truncated_quotient (a *ℤ pos (2 ^ k)) b) → r ≡ truncated_quotient (a *ℤ pos (2 ^ n)) b
wide_quotient_unsigned s s' t n n' k m a b r w d o x g y c z i j e =
    let i' : InRange true n a = rw x at i in
    let j' : InRange false n b = rw (y, o) at j in
    let l = j'.0 in
    quotient_kept s' n n' k n true a b r w d (g ∙ x) c (whole_quotient n a b w z i' (λ h. absurd (omega (arith, ints)))) e

pub wide_half_quotient : (s s' : Bool) (n n' k : ℕ) (a b r : ℤ) → IsWidth n → n' ≡ 2 * n → s' ≡ true → k ≡ n - 1 → b ≢ pos 0 → InRange s n a
    → r ≡ wrap s' n' (truncated_quotient (a *ℤ pos (2 ^ k)) b) → r ≡ truncated_quotient (a *ℤ pos (2 ^ (n - 1))) b
wide_half_quotient s s' n n' k a b r w d g c z i e = quotient_kept s' n n' k (n - 1) true a b r w d g c (small_quotient n a b w z (size_any s n a (width_pos n w) i)) e
  where
    size_any : (s : Bool) (n : ℕ) (a : ℤ) → 0 < n → InRange s n a → nat_abs a ≤ 2 ^ n - 1
    size_any true n a h i = let d = double n h in let p = pow_pos (n - 1) in let t = size_signed n a i in omega arith
    size_any false n a h i = size_unsigned n a i
