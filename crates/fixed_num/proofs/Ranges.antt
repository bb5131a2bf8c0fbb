-- Numbers that fit a word.
use Rattle.std.proofs.Common.{◌≡◌, ◌+◌, ◌-◌, ◌*◌, ◌/◌, ◌%◌, ◌^◌, ◌<◌, ◌≤◌, ◌+ℤ◌, ◌-ℤ◌, ◌*ℤ◌, ◌<ℤ◌, ◌≤ℤ◌, ℕ, ℤ, suc, Bool, true, false, pos, negsuc, neg_ℤ, nat_abs, min, refl, ap, sym, ◌∙◌, arith, inl, inr}
use Rattle.std.proofs.lemmas.Int.{ints}
use Rattle.std.proofs.lemmas.Bool.{cases_lt}
use Rattle.std.proofs.lemmas.Nat.{pow_pos, pow-add, one_shl}
use Rattle.std.proofs.Math.Nat.{pow-le-pow_right, pow-suc, div-le_self, div-eq_of_lt, mul_assoc}
use Rattle.fixed_word.specs.Format.{IsWidth, InRange, lowest, highest, wrap, with_sign, modulo}
use Rattle.fixed_word.specs.Quotient.{floor_quotient}
use Rattle.fixed_word.proofs.Wraps.{double, magnitude_fits, neg-times, range_len, width_pos, wrap_alike, wrap_in_range, wrap_same}
use Rattle.fixed_word.proofs.Sides.{lowest_sign, highest_sign}
use Rattle.fixed_bits.specs.Digits.{bit_list, lowest_digits}
use Rattle.fixed_bits.proofs.Words.{modulo_wrap, at_most_64}

ends_64 : (s : Bool) (n : ℕ) → IsWidth n → (highest s n <ℤ pos (2 ^ 64)) × (neg_ℤ (pos (2 ^ 64)) <ℤ lowest s n)
ends_64 true n w =
    let b : 2 ^ (n - 1) ≤ 2 ^ 63 = pow-le-pow_right {n = 2} (omega arith) {i = n - 1} {j = 63} (omega (arith, at_most_64 n w)) in
    (omega (arith, ints), omega (arith, ints))
ends_64 false n w =
    let b : 2 ^ n ≤ 2 ^ 64 = pow-le-pow_right {n = 2} (omega arith) (at_most_64 n w) in
    let p = pow_pos n in
    (omega (arith, ints), omega (arith, ints))

place_64 : (f : ℕ) → 2 ^ f < 2 ^ 64 → f < 128
place_64 f h = elim (cases_lt f 128) [
  | inl below ↦ below
  | inr above ↦ let b : 2 ^ 128 ≤ 2 ^ f = pow-le-pow_right {n = 2} (omega arith) above in absurd (omega arith)
]

pub one_room : (s : Bool) (n f : ℕ) → IsWidth n → InRange s n (pos (2 ^ f)) → f < 128
one_room s n f w r = let e = ends_64 s n w in let u = e.0 in let h = r.1 in place_64 f (omega (arith, ints))

pub neg_one_room : (s : Bool) (n f : ℕ) → IsWidth n → InRange s n (neg_ℤ (pos (2 ^ f))) → f < 128
neg_one_room s n f w r = let e = ends_64 s n w in let u = e.1 in let h = r.0 in place_64 f (omega (arith, ints))

pub one_is : (s : Bool) (n f : ℕ) (b : Bool) (r : ℤ) → IsWidth n → InRange s n (with_sign b (2 ^ f)) → f < 128 → r ≡ wrap s n (with_sign b ((1 * 2 ^ f) % 2 ^ 128)) → r ≡ with_sign b (2 ^ f)
one_is s n f b r w i h e = e ∙ ap (λ (x : ℕ). wrap s n (with_sign b x)) (one_shl f 128 h) ∙ wrap_same s n (with_sign b (2 ^ f)) (width_pos n w) i

-- ---- sizes

pub size_is : (s s' : Bool) (n n' m : ℕ) (v r : ℤ) → IsWidth n → n' ≡ n → s' ≡ false → InRange s n v → m ≡ nat_abs v → r ≡ wrap s' n' (pos m) → r ≡ pos (nat_abs v)
size_is s s' n n' m v r w a b i e f = rw (a, b, e) at f ∙ magnitude_fits s n v (width_pos n w) i

pub distance_is : (s s' : Bool) (n n' m : ℕ) (a b r : ℤ) → IsWidth n → n' ≡ n → s' ≡ false → InRange s n a → InRange s n b → m ≡ nat_abs (a -ℤ b) → r ≡ wrap s' n' (pos m) → r ≡ pos (nat_abs (a -ℤ b))
distance_is s s' n n' m a b r w d g i j e f =
    let l = range_len s n (width_pos n w) in
    let p = pow_pos n in
    let a0 = i.0 in
    let a1 = i.1 in
    let b0 = j.0 in
    let b1 = j.1 in
    rw (d, g, e) at f ∙ wrap_same false n (pos (nat_abs (a -ℤ b))) (width_pos n w) (omega (arith, ints), omega (arith, ints))

-- ---- the mean

half_between : (l h x : ℤ) → (l +ℤ l) ≤ℤ x → x ≤ℤ (h +ℤ h) → (l ≤ℤ floor_quotient x 2) × (floor_quotient x 2 ≤ℤ h)
half_between l h (pos a) b c = (omega (arith, ints), omega (arith, ints))
half_between l h (negsuc a) b c = (omega (arith, ints), omega (arith, ints))

pub mean_is : (s : Bool) (n : ℕ) (a b r : ℤ) → IsWidth n → InRange s n a → InRange s n b → r ≡ wrap s n (floor_quotient (a +ℤ b) 2) → r ≡ floor_quotient (a +ℤ b) 2
mean_is s n a b r w i j e =
    let a0 = i.0 in
    let a1 = i.1 in
    let b0 = j.0 in
    let b1 = j.1 in
    e ∙ wrap_same s n (floor_quotient (a +ℤ b) 2) (width_pos n w) (half_between (lowest s n) (highest s n) (a +ℤ b) (omega (arith, ints)) (omega (arith, ints)))

-- a sum of two words fits an integer of twice the width
pub sum_in : (s t : Bool) (n m : ℕ) (a b : ℤ) → t ≡ s → IsWidth n → m ≡ 2 * n → InRange s n a → InRange s n b → InRange t m (a +ℤ b)
sum_in true t n m a b e w d i j = rw e (
    let h = width_pos n w in
    let twice = double n h in
    let more : 2 ^ n ≤ 2 ^ (m - 1) = pow-le-pow_right {n = 2} (omega arith) {i = n} {j = m - 1} (omega arith) in
    let a0 = i.0 in
    let a1 = i.1 in
    let b0 = j.0 in
    let b1 = j.1 in
    (omega (arith, ints), omega (arith, ints)))
sum_in false t n m a b e w d i j = rw e (
    let h = width_pos n w in
    let next = pow-suc 2 n in
    let more : 2 ^ suc n ≤ 2 ^ m = pow-le-pow_right {n = 2} (omega arith) {i = suc n} {j = m} (omega arith) in
    let some = pow_pos n in
    let a0 = i.0 in
    let a1 = i.1 in
    let b0 = j.0 in
    let b1 = j.1 in
    (omega (arith, ints), omega (arith, ints)))

-- ---- shifts past the width

times_product : (v : ℤ) (x y : ℕ) → v *ℤ pos (x * y) ≡ v *ℤ pos x *ℤ pos y
times_product (pos a) x y = ap (λ (m : ℕ). pos m) (sym (mul_assoc a x y))
times_product (negsuc a) x y = ap (λ (m : ℕ). neg_ℤ (pos m)) (sym (mul_assoc (suc a) x y)) ∙ sym (neg-times (suc a * x) y)

pub all_shifted_out : (s : Bool) (n k m : ℕ) (v r : ℤ) → IsWidth n → m ≡ n → m ≤ k → r ≡ pos 0 → r ≡ wrap s n (v *ℤ pos (2 ^ k))
all_shifted_out s n k m v r w d h e =
    let l = lowest_sign s n in
    let u = highest_sign s n in
    let o : n ≤ k = omega arith in
    e ∙ sym (wrap_alike s n (v *ℤ pos (2 ^ k)) (pos 0) (width_pos n w) (v *ℤ pos (2 ^ (k - n)), multiple v n k o) ∙ wrap_same s n (pos 0) (width_pos n w) (l, u))
  where
    multiple : (v : ℤ) (n k : ℕ) → n ≤ k → v *ℤ pos (2 ^ k) ≡ pos 0 +ℤ v *ℤ pos (2 ^ (k - n)) *ℤ pos (2 ^ n)
    multiple v n k h =
        let e : k - n + n ≡ k = omega arith in
        let p : 2 ^ k ≡ 2 ^ (k - n) * 2 ^ n = ap (λ (x : ℕ). 2 ^ x) (sym e) ∙ pow-add 2 (k - n) n in
        rw p (omega (arith, ints, times_product v (2 ^ (k - n)) (2 ^ n)))

size_below : (s : Bool) (n m : ℕ) (v : ℤ) → IsWidth n → InRange s n v → m ≡ nat_abs v → m < 2 ^ n
size_below s n m v w i e =
    let f = magnitude_fits s n v (width_pos n w) i in
    let j = wrap_in_range false n (pos (nat_abs v)) (width_pos n w) in
    let u = j.1 in
    let p = pow_pos n in
    omega (arith, ints)

past_width : (n k x : ℕ) → x < 2 ^ n → x / 2 ^ min k n ≡ x / 2 ^ k
past_width n k x h = elim (cases_lt k n) [
  | inl below ↦ let e : min k n ≡ k = omega arith in rw e refl
  | inr above ↦
      let e : min k n ≡ n = omega arith in
      let b : 2 ^ n ≤ 2 ^ k = pow-le-pow_right {n = 2} (omega arith) above in
      let c : x < 2 ^ k = omega arith in
      rw (e, div-eq_of_lt h, div-eq_of_lt c) refl
]

past_places : (s : Bool) (n k : ℕ) (v : ℤ) → IsWidth n → InRange s n v → floor_quotient v (2 ^ min k n) ≡ floor_quotient v (2 ^ k)
past_places s n k (pos a) w i = ap pos (past_width n k a (size_below s n a (pos a) w i refl))
past_places s n k (negsuc a) w i = let l = size_below s n (suc a) (negsuc a) w i refl in ap negsuc (past_width n k a (omega arith))

floor_in : (s : Bool) (n d : ℕ) (v : ℤ) → InRange s n v → InRange s n (floor_quotient v d)
floor_in s n d (pos a) i =
    let l = lowest_sign s n in
    let u = i.1 in
    let b = div-le_self a d in
    (omega (arith, ints), omega (arith, ints))
floor_in s n d (negsuc a) i =
    let h = highest_sign s n in
    let u = i.0 in
    let b = div-le_self a d in
    (omega (arith, ints), omega (arith, ints))

pub down_is : (s : Bool) (n k m by : ℕ) (v r : ℤ) → IsWidth n → m ≡ n → by ≡ min k m → InRange s n v → r ≡ wrap s n (floor_quotient v (2 ^ by)) → r ≡ floor_quotient v (2 ^ k)
down_is s n k m by v r w d c i e =
    let q : floor_quotient v (2 ^ by) ≡ floor_quotient v (2 ^ k) = rw (c, d) (past_places s n k v w i) in
    e ∙ wrap_same s n (floor_quotient v (2 ^ by)) (width_pos n w) (floor_in s n (2 ^ by) v i) ∙ q

pub from_zero : (s : Bool) (n : ℕ) (v : ℤ) → s ≡ false → InRange s n v → pos 0 ≤ℤ v
from_zero s n v e r = let i : InRange false n v = rw e at r in i.0

pub bits_wrap : (s : Bool) (n : ℕ) (v x : ℤ) → 0 < n → v ≡ wrap s n x → bit_list n v ≡ bit_list n x
unfolding bit_list
bits_wrap s n v x h e = ap (lowest_digits 2 n) (ap (λ (y : ℤ). modulo y (2 ^ n)) e ∙ modulo_wrap s n x h)
