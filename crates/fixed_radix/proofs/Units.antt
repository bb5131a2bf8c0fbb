-- Numbers in units of a power of 2.
use Rattle.std.proofs.Common.{◌≡◌, ◌==◌, ◌+◌, ◌-◌, ◌*◌, ◌/◌, ◌%◌, ◌^◌, ◌<◌, ◌≤◌, ◌*ℤ◌, ℕ, ℤ, zero, suc, pos, nat_abs, nat_le, Bool, true, false, if◌then◌else◌, refl, sym, subst, ap, ◌∙◌, inl, inr, add-zero, zero-add, mul_assoc, mul_right_comm, pow-add, arith}
use Rattle.std.proofs.Math.Nat.{mul-mod_left, one-le-pow}
use Rattle.std.proofs.lemmas.Bool.{cases_lt}
use Rattle.std.proofs.lemmas.Bool.Decides.{nat_tests}
use Rattle.std.proofs.lemmas.Nat.{div-add-mod', div-mul-add, div_below, mod-mul-add, mod_below, mul-le, one_shl, shl_whole}
use Rattle.fixed_kernel.proofs.Stepped.{stepped_small}
use Rattle.fixed_word.specs.Format.{with_sign}
use Rattle.fixed_word.specs.declared.rounding.Rounding.TheVariants.{Even}
use Rattle.fixed_kernel.specs.Rounded.{rounded}
use Rattle.fixed_kernel.proofs.Alikes.{abs_signed, signed_times}
use Rattle.fixed_decimal.specs.inside.Stepped.{stepped}
use Rattle.fixed_decimal.proofs.Decided.{rounded_by_step}
use Rattle.fixed_decimal.proofs.Firsts.{first_is}
use Rattle.fixed_decimal.proofs.Parts.{joined_quotient}
use Rattle.fixed_decimal.proofs.Readings.{stepped_exact}
use Rattle.fixed_decimal.proofs.Trips.{signed_is}
use Rattle.fixed_radix.specs.Bases.{exact_places, in_base}
use Rattle.fixed_radix.proofs.Powers.{pow_pow}

-- ---- a quotient whose terms have a common factor
pub scaled : (m d c : ℕ) → 0 < d → 0 < c → (m * c / (d * c) ≡ m / d) × (m * c % (d * c) ≡ m % d * c)
scaled m d c hd hc =
    let z = add-zero (m * c) in
    let zero_is : 0 * c + 0 ≡ 0 = omega arith in
    let q : 0 / c ≡ 0 = ap (λ n. n / c) (sym zero_is) ∙ div-mul-add 0 c 0 hc in
    let r : 0 % c ≡ 0 = ap (λ n. n % c) (sym zero_is) ∙ mod-mul-add 0 c 0 hc in
    let j = joined_quotient m 0 d c hd hc in
    let t : m + 0 / c ≡ m = ap (λ n. m + n) q ∙ add-zero m in (
      ap (λ n. n / (d * c)) (sym z) ∙ j.0 ∙ ap (λ n. n / d) t,
      ap (λ n. n % (d * c)) (sym z) ∙ j.1 ∙ ap (λ n. n % d * c + 0 % c) t ∙ ap (λ n. m % d * c + n) r ∙ add-zero (m % d * c),
    )

test_true : (a b c d : ℕ) → a ≤ b → c ≤ d → nat_le a b ≡ nat_le c d
test_true a b c d h g = grind (arith, nat_tests)

test_false : (a b c d : ℕ) → b < a → d < c → nat_le a b ≡ nat_le c d
test_false a b c d h g = grind (arith, nat_tests)

scaled_test : (r e d c : ℕ) → 0 < c → e < 2 → nat_le (2 * (r * c) + e) (d * c) ≡ nat_le (2 * r + e) d
scaled_test r zero d c hc small = elim (cases_lt d (2 * r)) [
  | inl more ↦ let p = mul-le (d + 1) c (2 * r) c (omega arith) (omega arith) in let q = mul_assoc 2 r c in let s : (d + 1) * c ≡ d * c + c = omega arith in test_false _ _ _ _ (omega arith) (omega arith)
  | inr few ↦ let p = mul-le (2 * r) c d c few (omega arith) in let q = mul_assoc 2 r c in test_true _ _ _ _ (omega arith) (omega arith)
]
scaled_test r (suc zero) d c hc small = elim (cases_lt (2 * r) d) [
  | inl more ↦ let p = mul-le (2 * r + 1) c d c (omega arith) (omega arith) in let q = mul_assoc 2 r c in let s : (2 * r + 1) * c ≡ 2 * r * c + c = omega arith in test_true _ _ _ _ (omega arith) (omega arith)
  | inr few ↦ let p = mul-le d c (2 * r) c few (omega arith) in let q = mul_assoc 2 r c in test_false _ _ _ _ (omega arith) (omega arith)
]
scaled_test r (suc (suc e)) d c hc small = absurd (omega arith)

pub stepped_scaled : (b : Bool) (m d c : ℕ) → 0 < d → 0 < c → stepped Even b (m * c) (d * c) ≡ m / d + (if nat_le (2 * (m % d) + m / d % 2) d then 0 else 1)
stepped_scaled b m d c hd hc =
    let s = scaled m d c hd hc in
    ap (λ q. q + (if nat_le (2 * (m * c % (d * c)) + q % 2) (d * c) then 0 else 1)) s.0
    ∙ ap (λ r. m / d + (if nat_le (2 * r + m / d % 2) (d * c) then 0 else 1)) s.1
    ∙ ap (λ t. m / d + (if t then 0 else 1)) (scaled_test (m % d) (m / d % 2) d c hc (mod_below (m / d) 2 (omega arith)))

pub rounds_up : (q r d : ℕ) → d < 2 * r + q % 2 → q + 1 ≡ q + (if nat_le (2 * r + q % 2) d then 0 else 1)
rounds_up q r d h = let e : nat_le (2 * r + q % 2) d ≡ false = grind (arith, nat_tests) in ap (λ t. q + (if t then 0 else 1)) (sym e)

pub rounds_down : (q r d : ℕ) → 2 * r + q % 2 ≤ d → q ≡ q + (if nat_le (2 * r + q % 2) d then 0 else 1)
rounds_down q r d h = let e : nat_le (2 * r + q % 2) d ≡ true = grind (arith, nat_tests) in sym (add-zero q) ∙ ap (λ t. q + (if t then 0 else 1)) (sym e)

-- ---- in finer units
split : (f s h : ℕ) → f ≡ h + s → 2 ^ f ≡ 2 ^ h * 2 ^ s
split f s h e = ap (λ n. 2 ^ n) e ∙ pow-add 2 h s

pub finer : (b : Bool) (m f s : ℕ) → f ≤ s → (m * 2 ^ s ≡ m * 2 ^ (s - f) * 2 ^ f) × (m * 2 ^ s % 2 ^ f ≡ 0) × (stepped Even b (m * 2 ^ s) (2 ^ f) ≡ m * 2 ^ (s - f))
finer b m f s le =
    let d = one-le-pow f 2 (omega arith) in
    let e : m * 2 ^ s ≡ m * 2 ^ (s - f) * 2 ^ f = ap (λ n. m * n) (split s f (s - f) (omega arith)) ∙ sym (mul_assoc m (2 ^ (s - f)) (2 ^ f)) in
    let z = add-zero (m * 2 ^ (s - f) * 2 ^ f) in
    let left : m * 2 ^ s % 2 ^ f ≡ 0 = ap (λ n. n % 2 ^ f) (e ∙ sym z) ∙ mod-mul-add (m * 2 ^ (s - f)) (2 ^ f) 0 d in
    (e, left, stepped_exact Even b (m * 2 ^ s) (2 ^ f) d left ∙ ap (λ n. n / 2 ^ f) (e ∙ sym z) ∙ div-mul-add (m * 2 ^ (s - f)) (2 ^ f) 0 d)

-- ---- in coarser units
pub coarser : (b : Bool) (m f s : ℕ) → s ≤ f → stepped Even b (m * 2 ^ s) (2 ^ f) ≡ m / 2 ^ (f - s) + (if nat_le (2 * (m % 2 ^ (f - s)) + m / 2 ^ (f - s) % 2) (2 ^ (f - s)) then 0 else 1)
coarser b m f s le = ap (stepped Even b (m * 2 ^ s)) (split f s (f - s) (omega arith)) ∙ stepped_scaled b m (2 ^ (f - s)) (2 ^ s) (one-le-pow (f - s) 2 (omega arith)) (one-le-pow s 2 (omega arith))

product_zero : (r c : ℕ) → 0 < c → (r * c == 0) ≡ (r == 0)
product_zero zero c h = let z : 0 * c ≡ 0 = omega arith in ap (λ n. n == 0) z
product_zero (suc r) c h = let p = mul-le 1 c (suc r) c (omega arith) (omega arith) in grind (arith, nat_tests)

pub coarser_exact : (m f s : ℕ) → s ≤ f → (m * 2 ^ s % 2 ^ f == 0) ≡ (m % 2 ^ (f - s) == 0)
coarser_exact m f s le =
    let c = one-le-pow s 2 (omega arith) in
    ap (λ n. n == 0) (ap (λ d. m * 2 ^ s % d) (split f s (f - s) (omega arith)) ∙ (scaled m (2 ^ (f - s)) (2 ^ s) (one-le-pow (f - s) 2 (omega arith)) c).1)
    ∙ product_zero (m % 2 ^ (f - s)) (2 ^ s) c

-- as words compute it, where a shift of 1 is cut to 128 bits
abbrev bit : ℕ → ℕ
bit h = (1 * 2 ^ h) % 2 ^ 128

pub coarse_up : (b : Bool) (m x f s : ℕ) → x ≡ m → s < f → f ≤ 64 → bit (f - s) < 2 * (x % bit (f - s)) + x / 2 ^ (f - s) % 2 → x / 2 ^ (f - s) + 1 ≡ stepped Even b (m * 2 ^ s) (2 ^ f)
coarse_up b m x f s e lt le more =
    let o = one_shl (f - s) 128 (omega arith) in
    let at : 2 ^ (f - s) < 2 * (x % 2 ^ (f - s)) + x / 2 ^ (f - s) % 2 = subst (λ (d : ℕ). d < 2 * (x % d) + x / 2 ^ (f - s) % 2) o more in
    rounds_up (x / 2 ^ (f - s)) (x % 2 ^ (f - s)) (2 ^ (f - s)) at
    ∙ ap (λ n. n / 2 ^ (f - s) + (if nat_le (2 * (n % 2 ^ (f - s)) + n / 2 ^ (f - s) % 2) (2 ^ (f - s)) then 0 else 1)) e
    ∙ sym (coarser b m f s (omega arith))

pub coarse_down : (b : Bool) (m x f s : ℕ) → x ≡ m → s < f → f ≤ 64 → 2 * (x % bit (f - s)) + x / 2 ^ (f - s) % 2 ≤ bit (f - s) → x / 2 ^ (f - s) ≡ stepped Even b (m * 2 ^ s) (2 ^ f)
coarse_down b m x f s e lt le few =
    let o = one_shl (f - s) 128 (omega arith) in
    let at : 2 * (x % 2 ^ (f - s)) + x / 2 ^ (f - s) % 2 ≤ 2 ^ (f - s) = subst (λ (d : ℕ). 2 * (x % d) + x / 2 ^ (f - s) % 2 ≤ d) o few in
    rounds_down (x / 2 ^ (f - s)) (x % 2 ^ (f - s)) (2 ^ (f - s)) at
    ∙ ap (λ n. n / 2 ^ (f - s) + (if nat_le (2 * (n % 2 ^ (f - s)) + n / 2 ^ (f - s) % 2) (2 ^ (f - s)) then 0 else 1)) e
    ∙ sym (coarser b m f s (omega arith))

pub fine : (b : Bool) (m x f s : ℕ) → m < 2 ^ 64 → x ≡ m → f ≤ s → s ≤ f + 4 → (x * 2 ^ (s - f)) % 2 ^ 128 ≡ stepped Even b (m * 2 ^ s) (2 ^ f)
fine b m x f s small e le most =
    ap (λ n. (n * 2 ^ (s - f)) % 2 ^ 128) e ∙ shl_whole m 64 (s - f) 128 small (omega arith) ∙ sym (finer b m f s le).2

pub whole_small : (r m f s : ℕ) → r ≡ stepped Even false (m * 2 ^ s) (2 ^ f) → r / 2 ^ s ≤ m
whole_small r m f s e =
    let c = one-le-pow s 2 (omega arith) in
    let p = stepped_small Even false (m * 2 ^ s) (2 ^ f) (one-le-pow f 2 (omega arith)) in
    let t : (m + 1) * 2 ^ s ≡ m * 2 ^ s + 2 ^ s = omega arith in
    let q = div_below r (2 ^ s) (m + 1) c (omega (arith, e, p)) in
    omega arith

-- ---- the fewest places that are exact
in_bits : (b m f p : ℕ) → (m * (2 ^ b) ^ p % 2 ^ f == 0) ≡ (m * 2 ^ (b * p) % 2 ^ f == 0)
in_bits b m f p = ap (λ n. m * n % 2 ^ f == 0) (pow_pow 2 b p)

pub fewest : (b m f p : ℕ) → p ≤ f → (m * 2 ^ (b * p) % 2 ^ f == 0) ≡ true → ((k : ℕ) → k < p → (m * 2 ^ (b * k) % 2 ^ f == 0) ≡ false) → exact_places (2 ^ b) m f ≡ p
fewest b m f p le hit miss =
    let test : ℕ → Bool = λ k. m * (2 ^ b) ^ k % 2 ^ f == 0 in
    first_is test 0 f p le (ap test (zero-add p) ∙ in_bits b m f p ∙ hit) (λ k lt. ap test (zero-add k) ∙ in_bits b m f k ∙ miss k lt)

pub test_zero : (n : ℕ) → (n == 0) ≡ true → n ≡ 0
test_zero n e = grind (arith, nat_tests, e)

-- ---- the magnitude in a base
pub size_in : (b : ℕ) (a : ℤ) (f p : ℕ) → in_base b a f p ≡ stepped Even false (nat_abs a * b ^ p) (2 ^ f)
size_in b a f p =
    let g = signed_is a (nat_abs a) refl in
    let m = nat_abs a in
    let d = one-le-pow f 2 (omega arith) in
    ap (λ (x : ℤ). nat_abs (rounded (x *ℤ pos (b ^ p)) (pos (2 ^ f)) Even)) g.1
    ∙ ap (λ (x : ℤ). nat_abs (rounded x (pos (2 ^ f)) Even)) (signed_times g.0 m (b ^ p))
    ∙ ap nat_abs (rounded_by_step Even g.0 (m * b ^ p) (2 ^ f) d) ∙ abs_signed g.0 (stepped Even g.0 (m * b ^ p) (2 ^ f))

-- more digits behind the exact ones
pub size_longer : (b : ℕ) (a : ℤ) (f p j : ℕ) → nat_abs a * b ^ p % 2 ^ f ≡ 0 → in_base b a f (p + j) ≡ in_base b a f p * b ^ j
size_longer b a f p j left =
    let m = nat_abs a in
    let d = one-le-pow f 2 (omega arith) in
    let q = m * b ^ p / 2 ^ f in
    let whole : m * b ^ p ≡ q * 2 ^ f = omega (arith, div-add-mod' (m * b ^ p) (2 ^ f), left) in
    let more : m * b ^ (p + j) ≡ q * b ^ j * 2 ^ f + 0 =
    ap (λ n. m * n) (pow-add b p j) ∙ sym (mul_assoc m (b ^ p) (b ^ j)) ∙ ap (λ n. n * b ^ j) whole ∙ mul_right_comm q (2 ^ f) (b ^ j) ∙ sym (add-zero (q * b ^ j * 2 ^ f)) in
    let less = size_in b a f p ∙ stepped_exact Even false (m * b ^ p) (2 ^ f) d left in
    size_in b a f (p + j) ∙ stepped_exact Even false (m * b ^ (p + j)) (2 ^ f) d (ap (λ n. n % 2 ^ f) more ∙ mod-mul-add (q * b ^ j) (2 ^ f) 0 d)
    ∙ ap (λ n. n / 2 ^ f) more ∙ div-mul-add (q * b ^ j) (2 ^ f) 0 d ∙ ap (λ n. n * b ^ j) (sym less)
