-- Powers of 2 from a mantissa of 63 bits, with what it may lack.
use Rattle.std.proofs.Common.{◌≡◌, ◌+◌, ◌-◌, ◌*◌, ◌/◌, ◌%◌, ◌^◌, ◌<◌, ◌≤◌, ℕ, zero, suc, refl, ap, sym, subst, ◌∙◌, inl, inr, arith}
use Rattle.std.specs.Prelude.{min}
use Rattle.std.proofs.Math.Nat.{div-mul-le_self, lt-mul-div-succ, pow-le-pow_right, le_of_mul-le-mul_right, lt_of_mul-lt-mul_right, mul-le-mul_left, mul-le-mul_right, pow-le-pow_left, pow-lt-pow_left, pow-suc, pow-zero, one-le-pow}
use Rattle.std.proofs.lemmas.Nat.{mul-le, mul-pow, pow-add, pow_pos, div-add-mod', mod_below}
use Rattle.std.proofs.lemmas.Bool.{cases_lt}
use Rattle.fixed_elementary.specs.inside.Power.{IsPart, IsWithin}
use Rattle.fixed_elementary.specs.Exp2.{IsExp2Up}
use Rattle.fixed_elementary.proofs.Closing.{unit_read}
use Rattle.fixed_elementary.proofs.Powers.{part_longer}
use Rattle.fixed_elementary.proofs.Reading.{pow_times, root_le, root_lt}
use Rattle.fixed_elementary.proofs.Rests.{IsUnit, joined_above, joined_below, rest_below, unit_above, unit_below}
use Rattle.fixed_elementary.proofs.Squarings.{growth}

-- ---- the last digits: r of them are the exponent of 1 + n / w, or of little more

first_terms : (w i : ℕ) → (w + i) * w ^ i ≤ (w + 1) ^ i * w
first_terms w zero =
    let a = pow-zero (w + 1) in
    let b = pow-zero w in
    rw (a, b) (omega arith)
first_terms w (suc i) =
    let before = first_terms w i in
    let a = pow-suc (w + 1) i in
    let b = pow-suc w i in
    let x = mul-le-mul_right (w + 1) before in
    let next : (w + suc i) * w ≤ (w + i) * (w + 1) = omega arith in
    let y = mul-le-mul_right (w ^ i) next in
    rw (a, b) (omega arith)

rest_least : (h w b c n r : ℕ) → 0 < w → 0 < b → (c + 2) * n ≤ r * b → IsUnit h w b c → (w + n) ^ 2 ^ h ≤ 2 ^ r * w ^ 2 ^ h
rest_least h w b c n r o z f unit = joined_above w n n (2 ^ h) (2 ^ r) o (first_terms w n) (unit_above h w b c n r z f unit)

rest_most : (h w b c n r : ℕ) → 0 < w → 0 < b → n + 3 ≤ w → (n + 3) * (n + 3) ≤ 1 * (2 * w) → r * b ≤ (n + 2) * c → IsUnit h w b c → 2 ^ r * w ^ 2 ^ h ≤ (w + (n + 3)) ^ 2 ^ h
rest_most h w b c n r o z few square f unit = joined_below w (n + 3) (n + 2) (2 ^ h) (2 ^ r) o (rest_below w (n + 3) 0 (n + 2) o few square (omega arith)) (unit_below h w b c (n + 2) r z f unit)

unit_is : IsUnit 64 (2 ^ 63) (2 ^ 62) 0xb8aa3b295c17f0bb
unit_is = unit_read 64 (2 ^ 62) 63 126 (2 ^ 64) (2 ^ 127) 0xb8aa3b295c17f0bb (0xb8aa3b295c17f0bb + 63 * 2 ^ 126) refl refl refl refl (omega arith) (omega arith) tt

-- ---- all digits: the power of z, and then that of r

with_rest_below : (W w q z r p n m : ℕ) → 0 < w → m * w ≤ p * (w + n) → p ^ q ≤ 2 ^ z * W ^ q → (w + n) ^ q ≤ 2 ^ r * w ^ q → m ^ q ≤ 2 ^ (z + r) * W ^ q
with_rest_below W w q z r p n m o f g h =
    let up : (m * w) ^ q ≤ (p * (w + n)) ^ q = pow-le-pow_left f q in
    let a = mul-pow m w q in
    let b = mul-pow p (w + n) q in
    let c = mul-le (p ^ q) ((w + n) ^ q) (2 ^ z * W ^ q) (2 ^ r * w ^ q) g h in
    let d = pow-add 2 z r in
    let t : m ^ q * w ^ q ≤ 2 ^ z * 2 ^ r * W ^ q * w ^ q = omega arith in
    rw d (le_of_mul-le-mul_right t (one-le-pow q w o))

with_rest_above : (W w q z r p n m i d : ℕ) → 0 < w → 0 < d → W ≡ i + d → p * (w + n) * W ≤ m * (w * d) → 2 ^ z * W ^ q * W ^ (i * q) ≤ p ^ q * (W + 1) ^ (i * q) → 2 ^ r * w ^ q ≤ (w + n) ^ q
    → 2 ^ (z + r) * W ^ q ≤ m ^ q
with_rest_above W w q z r p n m i d o s e f g h =
    let large : 0 < W = omega arith in
    let grown : ((W + 1) ^ i * d) ^ q ≤ (W ^ i * W) ^ q = pow-le-pow_left (growth W i d e) q in
    let a = mul-pow ((W + 1) ^ i) d q in
    let b = mul-pow (W ^ i) W q in
    let j = pow_times (W + 1) i q in
    let k = pow_times W i q in
    let grows : (W + 1) ^ (i * q) * d ^ q ≤ W ^ (i * q) * W ^ q = rw (sym j, sym k, sym a, sym b) grown in
    let up : (p * (w + n) * W) ^ q ≤ (m * (w * d)) ^ q = pow-le-pow_left f q in
    let x = mul-pow (p * (w + n)) W q ∙ ap (λ (y : ℕ). y * W ^ q) (mul-pow p (w + n) q) in
    let y = mul-pow m (w * d) q ∙ ap (λ (y : ℕ). m ^ q * y) (mul-pow w d q) in
    let ends : p ^ q * (w + n) ^ q * W ^ q ≤ m ^ q * (w ^ q * d ^ q) = rw (sym x, sym y) up in
    let both = mul-le (2 ^ z * W ^ q * W ^ (i * q)) (2 ^ r * w ^ q) (p ^ q * (W + 1) ^ (i * q)) ((w + n) ^ q) g h in
    let more = mul-le-mul_right (d ^ q) both in
    let most = mul-le-mul_left (p ^ q * (w + n) ^ q) grows in
    let last = mul-le-mul_right (W ^ (i * q)) ends in
    let sum = pow-add 2 z r in
    let t : 2 ^ z * 2 ^ r * W ^ q * (w ^ q * d ^ q * W ^ (i * q)) ≤ m ^ q * (w ^ q * d ^ q * W ^ (i * q)) = omega arith in
    let some = mul-le 1 1 (w ^ q * d ^ q) (W ^ (i * q)) (mul-le 1 1 (w ^ q) (d ^ q) (one-le-pow q w o) (one-le-pow q d s)) (one-le-pow (i * q) W large) in
    rw sum (le_of_mul-le-mul_right t (omega arith))

-- ---- the mantissa

least_product : (p n h : ℕ) → h * 2 ^ 64 ≤ 2 * p * n → (p + h) * 2 ^ 63 ≤ p * (2 ^ 63 + n)
least_product p n h f = omega arith

most_product : (p n h : ℕ) → p < 2 * 2 ^ 62 → h < 2 ^ 40 → 2 * p * n < (h + 1) * 2 ^ 64 → p * (2 ^ 63 + (n + 3)) * 2 ^ 62 ≤ (p + h + 24) * (2 ^ 63 * (2 ^ 62 - 8))
most_product p n h few small f = omega arith

small_product : (p n h : ℕ) → p < 2 * 2 ^ 62 → n < 2 ^ 32 → h * 2 ^ 64 ≤ 2 * p * n → h < 2 ^ 40
small_product p n h few small f =
    let a = mul-le p n (2 ^ 63) (2 ^ 32) (omega arith) (omega arith) in
    omega arith

pub digits_small : (x : ℕ) → x % 2 ^ 32 < 2 ^ 32
digits_small x = mod_below x (2 ^ 32) (omega arith)

pub sum_small : (x z r p n h : ℕ) → r < 2 ^ 32 → IsPart (2 ^ 62) 32 8 z p → n * 2 ^ 64 ≤ r * 0x58b90bfbe8e7bcd5 → h * 2 ^ 64 ≤ 2 * p * n → p + h < 3 * 2 ^ 62
sum_small x z r p n h last part f g =
    let most = part.most in
    let small = small_product p n h most (omega arith) g in
    omega arith

pub sum_fits : (x z r p n h : ℕ) → r < 2 ^ 32 → IsPart (2 ^ 62) 32 8 z p → n * 2 ^ 64 ≤ r * 0x58b90bfbe8e7bcd5 → h * 2 ^ 64 ≤ 2 * p * n → p + h < 2 ^ 64
sum_fits x z r p n h last part f g =
    let small = sum_small x z r p n h last part f g in
    omega arith

-- k is the number of all digits
pub near_is : (k x z r p n h : ℕ) → k ≡ 64 → z * 2 ^ 32 + r ≡ x → r < 2 ^ 32 → IsPart (2 ^ 62) 32 8 z p → n * 2 ^ 64 ≤ r * 0x58b90bfbe8e7bcd5 → r * 0x58b90bfbe8e7bcd5 < (n + 1) * 2 ^ 64 → h * 2 ^ 64 ≤ 2 * p * n → 2 * p * n < (h + 1) * 2 ^ 64
    → IsWithin (2 ^ 62) k 24 x (p + h)
near_is k x z r p n h e all last part n_low n_high h_low h_high =
    let longer : IsPart (2 ^ 62) 64 8 (z * 2 ^ 32) p = part_longer (2 ^ 62) 32 32 8 z p part in
    let first = subst (λ (j : ℕ). IsPart (2 ^ 62) j 8 (z * 2 ^ 32) p) (sym e) longer in
    let unit = subst (λ (j : ℕ). IsUnit j (2 ^ 63) (2 ^ 62) 0xb8aa3b295c17f0bb) (sym e) unit_is in
    let few : n < 2 ^ 32 = omega arith in
    let square = mul-le (n + 3) (n + 3) (2 ^ 32) (2 ^ 32) (omega arith) (omega arith) in
    let least = rest_least k (2 ^ 63) (2 ^ 62) 0xb8aa3b295c17f0bb n r (omega arith) (omega arith) (omega arith) unit in
    let most = rest_most k (2 ^ 63) (2 ^ 62) 0xb8aa3b295c17f0bb n r (omega arith) (omega arith) (omega arith) (omega arith) (omega arith) unit in
    let small = small_product p n h first.most few h_low in
    let low = with_rest_below (2 ^ 62) (2 ^ 63) (2 ^ k) (z * 2 ^ 32) r p n (p + h) (omega arith) (least_product p n h h_low) first.power.below least in
    let high = with_rest_above (2 ^ 62) (2 ^ 63) (2 ^ k) (z * 2 ^ 32) r p (n + 3) (p + h + 24) 8 (2 ^ 62 - 8) (omega arith) (omega arith) (omega arith) (most_product p n h first.most small h_high) first.power.above most in
    record {
      below = subst (λ (j : ℕ). (p + h) ^ 2 ^ k ≤ 2 ^ j * (2 ^ 62) ^ 2 ^ k) all low;
      above = subst (λ (j : ℕ). 2 ^ j * (2 ^ 62) ^ 2 ^ k ≤ (p + h + 24) ^ 2 ^ k) all high;
    }

-- ---- the power, rounded down

floored_below : (q s n x m r : ℕ) → r * 2 ^ s ≤ m → m ^ q ≤ 2 ^ x * (2 ^ s * 2 ^ n) ^ q → r ^ q ≤ 2 ^ (n * q + x)
floored_below q s n x m r f g =
    let up : (r * 2 ^ s) ^ q ≤ m ^ q = pow-le-pow_left f q in
    let a = mul-pow r (2 ^ s) q in
    let b = mul-pow (2 ^ s) (2 ^ n) q ∙ ap (λ (y : ℕ). (2 ^ s) ^ q * y) (pow_times 2 n q) in
    let d = pow-add 2 (n * q) x in
    let h : m ^ q ≤ 2 ^ x * ((2 ^ s) ^ q * 2 ^ (n * q)) = subst (λ (y : ℕ). m ^ q ≤ 2 ^ x * y) b g in
    let t : r ^ q * (2 ^ s) ^ q ≤ 2 ^ (n * q) * 2 ^ x * (2 ^ s) ^ q = omega arith in
    rw d (le_of_mul-le-mul_right t (one-le-pow q (2 ^ s) (pow_pos s)))

floored_above : (q s n x m r : ℕ) → 0 < q → m < (r + 1) * 2 ^ s → 2 ^ x * (2 ^ s * 2 ^ n) ^ q ≤ m ^ q → 2 ^ (n * q + x) < (r + 1) ^ q
floored_above q s n x m r o f g =
    let up : m ^ q < ((r + 1) * 2 ^ s) ^ q = pow-lt-pow_left f (omega arith) in
    let a = mul-pow (r + 1) (2 ^ s) q in
    let b = mul-pow (2 ^ s) (2 ^ n) q ∙ ap (λ (y : ℕ). (2 ^ s) ^ q * y) (pow_times 2 n q) in
    let d = pow-add 2 (n * q) x in
    let h : 2 ^ x * ((2 ^ s) ^ q * 2 ^ (n * q)) ≤ m ^ q = subst (λ (y : ℕ). 2 ^ x * y ≤ m ^ q) b g in
    let t : 2 ^ (n * q) * 2 ^ x * (2 ^ s) ^ q < (r + 1) ^ q * (2 ^ s) ^ q = omega arith in
    rw d (lt_of_mul-lt-mul_right ((2 ^ s) ^ q) t)

-- r is the power, rounded down
floored_is : (room f e r : ℕ) → r ^ 2 ^ f ≤ 2 ^ e → 2 ^ e < (r + 1) ^ 2 ^ f → IsExp2Up room e f r
floored_is room f e r low high = record {
  near = λ k l. record { below = low; above = near (2 ^ f) e r (2 ^ k) (pow_pos k) high };
  exact = λ j s.
      let a = pow_times 2 j (2 ^ f) in
      let below : r ^ 2 ^ f ≤ (2 ^ j) ^ 2 ^ f = rw a (subst (λ (n : ℕ). r ^ 2 ^ f ≤ 2 ^ n) s low) in
      let above : (2 ^ j) ^ 2 ^ f < (r + 1) ^ 2 ^ f = rw a (subst (λ (n : ℕ). 2 ^ n < (r + 1) ^ 2 ^ f) s high) in
      let least = root_le r (2 ^ j) (2 ^ f) (pow_pos f) below in
      let most = root_lt (2 ^ j) (r + 1) (2 ^ f) above in
      omega arith;
}
  where
    near : (q e r m : ℕ) → 0 < m → 2 ^ e < (r + 1) ^ q → 2 ^ (e * m) < (r + 1) ^ (q * m) * 2 ^ q
    near q e r m o h =
        let up : (2 ^ e) ^ m < ((r + 1) ^ q) ^ m = pow-lt-pow_left h (omega arith) in
        let a = pow_times 2 e m in
        let b = pow_times (r + 1) q m in
        let s : 2 ^ (e * m) < (r + 1) ^ (q * m) = rw (sym a, sym b) up in
        let t = mul-le ((r + 1) ^ (q * m)) 1 ((r + 1) ^ (q * m)) (2 ^ q) (omega arith) (pow_pos q) in
        omega arith

-- d digits 0 were added to the exponent, and k is the number of all; the last s bits of the mantissa are left out
pub closed_is : (room k f d s u e m r : ℕ) → f + d ≡ k → s + e / 2 ^ f ≡ u → IsWithin (2 ^ u) k 24 (e % 2 ^ f * 2 ^ d) m → r * 2 ^ s ≤ m → m + 24 < (r + 1) * 2 ^ s → IsExp2Up room e f r
closed_is room k f d s u e m r all whole within low high =
    let n = e / 2 ^ f in
    let x = e % 2 ^ f * 2 ^ d in
    let q : 2 ^ k ≡ 2 ^ f * 2 ^ d = ap (λ (y : ℕ). 2 ^ y) (sym all) ∙ pow-add 2 f d in
    let w : 2 ^ u ≡ 2 ^ s * 2 ^ n = ap (λ (y : ℕ). 2 ^ y) (sym whole) ∙ pow-add 2 s n in
    let from = subst (λ (y : ℕ). m ^ 2 ^ k ≤ 2 ^ x * y ^ 2 ^ k) w within.below in
    let to = subst (λ (y : ℕ). 2 ^ x * y ^ 2 ^ k ≤ (m + 24) ^ 2 ^ k) w within.above in
    let a = floored_below (2 ^ k) s n x m r low from in
    let b = floored_above (2 ^ k) s n x (m + 24) r (pow_pos k) high to in
    let c = div-add-mod' e (2 ^ f) in
    let g : n * 2 ^ k + x ≡ e * 2 ^ d = ap (λ (y : ℕ). n * y + x) q ∙ joined n (2 ^ f) (e % 2 ^ f) (2 ^ d) e c in
    let a_r : (r ^ 2 ^ f) ^ 2 ^ d ≤ (2 ^ e) ^ 2 ^ d = rw (pow_times r (2 ^ f) (2 ^ d), pow_times 2 e (2 ^ d), sym g) (subst (λ (y : ℕ). r ^ y ≤ 2 ^ (n * 2 ^ k + x)) q a) in
    let b_r : (2 ^ e) ^ 2 ^ d < ((r + 1) ^ 2 ^ f) ^ 2 ^ d = rw (pow_times (r + 1) (2 ^ f) (2 ^ d), pow_times 2 e (2 ^ d), sym g) (subst (λ (y : ℕ). 2 ^ (n * 2 ^ k + x) < (r + 1) ^ y) q b) in
    floored_is room f e r (root_le (r ^ 2 ^ f) (2 ^ e) (2 ^ d) (pow_pos d) a_r) (root_lt (2 ^ e) ((r + 1) ^ 2 ^ f) (2 ^ d) b_r)
  where
    joined : (n q t m e : ℕ) → n * q + t ≡ e → n * (q * m) + t * m ≡ e * m
    joined n q t m e h = rw (sym h) (omega arith)

pub closed_min : (room f e b r : ℕ) → IsExp2Up room e f r → e / 2 ^ f < b → r ≡ min r (2 ^ b)
closed_min room f e b r up less =
    let near = up.near 0 (omega arith) in
    let next = lt-mul-div-succ e (pow_pos f) in
    let more : e / 2 ^ f + 1 ≤ b = omega arith in
    let whole = mul-le-mul_left (2 ^ f) more in
    let most : 2 ^ e ≤ 2 ^ (b * 2 ^ f) = pow-le-pow_right {n = 2} (omega arith) {i = e} {j = b * 2 ^ f} (omega arith) in
    let a = pow_times 2 b (2 ^ f) in
    let low = near.below in
    let fits : r ^ 2 ^ f ≤ (2 ^ b) ^ 2 ^ f = rw a (omega arith) in
    least (root_le r (2 ^ b) (2 ^ f) (pow_pos f) fits)
  where
    least : {r b : ℕ} → r ≤ b → r ≡ min r b
    least h = grind arith

-- ---- a power above the word

-- the root of N, rounded down
root_exists : (q N : ℕ) → 0 < q → (r : ℕ) × (r ^ q ≤ N) × (N < (r + 1) ^ q)
root_exists q zero o =
    let none = none_is q o in
    (0, omega arith, one-le-pow q 1 (omega arith))
  where
    none_is : (q : ℕ) → 0 < q → 0 ^ q ≡ 0
    none_is zero o = absurd (omega arith)
    none_is (suc q) o = pow-suc 0 q ∙ omega arith
root_exists q (suc N) o =
    let before = root_exists q N o in
    let r = before.0 in
    let low = before.1 in
    let high = before.2 in
    elim (cases_lt (suc N) ((r + 1) ^ q)) [
      | inl less ↦ (r, omega arith, less)
      | inr more ↦ let next : (r + 1) ^ q < (r + 1 + 1) ^ q = pow-lt-pow_left (omega arith) (omega arith) in (r + 1, more, omega arith)
    ]

pub past_all : (room f e b : ℕ) → b ≤ e / 2 ^ f → (r : ℕ) × IsExp2Up room e f r × (2 ^ b ≡ min r (2 ^ b))
past_all room f e b more =
    let root = root_exists (2 ^ f) (2 ^ e) (pow_pos f) in
    let r = root.0 in
    let whole = mul-le-mul_right (2 ^ f) more in
    let fits = div-mul-le_self e (2 ^ f) in
    let most : 2 ^ (b * 2 ^ f) ≤ 2 ^ e = pow-le-pow_right {n = 2} (omega arith) {i = b * 2 ^ f} {j = e} (omega arith) in
    let a = pow_times 2 b (2 ^ f) in
    let high = root.2 in
    let less : (2 ^ b) ^ 2 ^ f < (r + 1) ^ 2 ^ f = rw a (omega arith) in
    (r, floored_is room f e r root.1 high, least r (2 ^ b) (root_lt (2 ^ b) (r + 1) (2 ^ f) less))
  where
    least : (r b : ℕ) → b < r + 1 → b ≡ min r b
    least r b h = grind arith
