-- The digits of a logarithm, read by squaring.
use Rattle.std.proofs.Common.{◌≡◌, ◌+◌, ◌-◌, ◌*◌, ◌^◌, ◌<◌, ◌≤◌, ◌<ℤ◌, ◌-ℤ◌, ℕ, ℤ, pos, zero, suc, refl, ap, sym, subst, ◌∙◌, arith, inl, inr}
use Rattle.std.proofs.Math.Nat.{le_of_mul-le-mul_right, lt_of_mul-lt-mul_right, mul-le-mul_right, mul-le-mul_left, pow-suc, pow-zero, pow-lt-pow_left, pow-le-pow_left, pow-le-pow_right, one-le-pow}
use Rattle.std.proofs.lemmas.Nat.{mul-le, mul-pow, pow-add, pow_pos}
use Rattle.std.specs.Prelude.{neg_ℤ, unsigned_abs}
use Rattle.std.proofs.lemmas.Int.{ints}
use Rattle.std.proofs.lemmas.Bool.{cases_lt}
use Rattle.fixed_elementary.specs.Log2.{IsLog2, IsLog2Of, log2_room}
use Rattle.fixed_elementary.specs.inside.Squaring.{IsMantissa, IsSquared}
use Rattle.fixed_elementary.specs.inside.Digits.{IsFound, IsRead}
use Rattle.fixed_elementary.proofs.Squarings.{growth_within, lower, upper}

pub pow_times : (b m n : ℕ) → (b ^ m) ^ n ≡ b ^ (m * n)
pow_times b m zero = let e : m * 0 ≡ 0 = omega arith in pow-zero (b ^ m) ∙ sym (pow-zero b) ∙ ap (λ n. b ^ n) (sym e)
pow_times b m (suc n) =
    let e : m * suc n ≡ m * n + m = omega arith in
    pow-suc (b ^ m) n ∙ ap (λ x. x * b ^ m) (pow_times b m n) ∙ sym (pow-add b (m * n) m) ∙ ap (λ x. b ^ x) (sym e)

-- numbers are in the order of their powers
pub root_le : (x y n : ℕ) → 0 < n → x ^ n ≤ y ^ n → x ≤ y
root_le x y n o h = elim (cases_lt y x) [
  | inl less ↦ let up : y ^ n < x ^ n = pow-lt-pow_left less (omega arith) in absurd (omega arith)
  | inr fine ↦ fine
]

pub root_lt : (x y n : ℕ) → x ^ n < y ^ n → x < y
root_lt x y n h = elim (cases_lt x y) [
  | inl less ↦ less
  | inr fine ↦ let up : y ^ n ≤ x ^ n = pow-le-pow_left fine n in absurd (omega arith)
]

pub twice_more : (b n : ℕ) → b ^ n * b ^ n * b ≡ b ^ (n + n + 1)
twice_more b n =
    let f = pow-suc b (n + n) in
    let g = pow-add b n n in
    let e : n + n + 1 ≡ suc (n + n) = omega arith in
    rw (e, f, g) refl

pub twice_power : (a i : ℕ) → a ^ 2 ^ suc i ≡ a ^ 2 ^ i * a ^ 2 ^ i
twice_power a i =
    let f = pow-suc 2 i in
    let e : 2 ^ suc i ≡ 2 ^ i + 2 ^ i = omega arith in
    ap (λ n. a ^ n) e ∙ pow-add a (2 ^ i) (2 ^ i)

pub doubled : (r b : ℕ) → 2 ^ (2 * r + b) ≡ 2 ^ r * 2 ^ r * 2 ^ b
doubled r b =
    let e : 2 * r + b ≡ r + r + b = omega arith in
    let f = pow-add 2 (r + r) b in
    let g = pow-add 2 r r in
    ap (λ n. 2 ^ n) e ∙ f ∙ ap (λ n. n * 2 ^ b) g

-- ---- powers of two, whose mantissa is its unit

unit_squared : (w b n : ℕ) → 0 < w → b ≤ 1 → w ≤ n → n * (w * 2 ^ b) ≤ w * w → (n ≡ w) × (b ≡ 0)
unit_squared w zero n o s l h =
    let z = pow-zero 2 in
    let t : n * w ≤ w * w = omega arith in
    let f = le_of_mul-le-mul_right t o in
    (omega arith, refl)
unit_squared w (suc zero) n o s l h =
    let y : 2 ^ 1 ≡ 2 = refl in
    let t : n * 2 * w ≤ w * w = omega arith in
    let f = le_of_mul-le-mul_right t o in
    absurd (omega arith)
unit_squared w (suc (suc b)) n o s l h = absurd (omega arith)

too_small : (p q w m : ℕ) → 0 < p → m < 2 * w → 2 * p ≤ q → p * m ≡ q * w → ⊥
too_small p q w m o u h e =
    let t = mul-le-mul_right w h in
    let v : m + 1 ≤ 2 * w = omega arith in
    let s = mul-le-mul_left p v in
    omega arith

too_large : (p q w m : ℕ) → 0 < q → 0 < w → w ≤ m → 2 * q ≤ p → p * m ≡ q * w → ⊥
too_large p q w m o z l h e =
    let t = mul-le (2 * q) w p m h l in
    let s = mul-le 1 1 q w o z in
    omega arith

twice_le : (d j : ℕ) → d < j → 2 * 2 ^ d ≤ 2 ^ j
twice_le d j h =
    let p : 2 ^ suc d ≤ 2 ^ j = pow-le-pow_right {n = 2} (omega arith) {i = suc d} {j = j} h in
    omega (arith, pow-suc 2 d)

same_factor : (p m w : ℕ) → 0 < p → p * m ≡ p * w → m ≡ w
same_factor p m w o e =
    let f : m * p ≤ w * p = omega arith in
    let g : w * p ≤ m * p = omega arith in
    let x = le_of_mul-le-mul_right f o in
    let y = le_of_mul-le-mul_right g o in
    omega arith

unit_mantissa : (w d j m : ℕ) → 0 < w → w ≤ m → m < 2 * w → 2 ^ d * m ≡ 2 ^ j * w → (m ≡ w) × (d ≡ j)
unit_mantissa w d j m o l u e = elim (cases_lt d j) [
  | inl less ↦ absurd (too_small (2 ^ d) (2 ^ j) w m (pow_pos d) u (twice_le d j less) e)
  | inr fine ↦ elim (cases_lt j d) [
    | inl more ↦ absurd (too_large (2 ^ d) (2 ^ j) w m (pow_pos j) o l (twice_le j d more) e)
    | inr both ↦
        let same : d ≡ j = omega arith in
        (same_factor (2 ^ j) m w (pow_pos j) (subst (λ k. 2 ^ k * m ≡ 2 ^ j * w) same e), same)
  ]
]

-- ---- the loop

pub read_none : (w a r m : ℕ) → 0 < w → IsMantissa w a r m → IsRead w a 0 r m
read_none w a r m o h =
    let e = h.value in
    let x = pow-zero 2 in
    let y : a ^ 1 ≡ a = pow-suc a 0 ∙ ap (λ n. n * a) (pow-zero a) ∙ omega arith in
    let z = pow-zero w in
    let v = pow-zero (w + 1) in
    record {
      turns = 0;
      turns_are = rw x refl;
      least = h.least;
      most = h.most;
      below = rw (x, y) (omega arith);
      above = rw (x, y, z, v) (omega arith);
      digits = rw x (omega (arith, h.digits));
      exact = λ j p.
          let u = unit_mantissa w r j m o h.least h.most (e ∙ ap (λ n. n * w) p) in
          let k = u.1 in
          (u.0, rw x (omega arith));
    }

read_on : (w a i r m n b : ℕ) → 0 < w → IsRead w a i r m → IsSquared w m b n → IsRead w a (suc i) (2 * r + b) n
read_on w a i r m n b o h k =
    let c = h.turns in
    let e = doubled r b in
    let t = twice_power a i in
    let p = pow-suc 2 i in
    let d = h.digits in
    let s = k.digit in
    let q = h.turns_are in
    let lo = lower (a ^ 2 ^ i) (2 ^ r) m n w (2 ^ b) o h.below k.below in
    let hi = upper (a ^ 2 ^ i) (2 ^ r) m n w (2 ^ b) ((w + 1) ^ c) (w ^ c) o k.least h.above k.above in
    let x = twice_more w c in
    let y = twice_more (w + 1) c in
    record {
      turns = c + c + 1;
      turns_are = omega arith;
      least = k.least;
      most = k.most;
      below = rw (e, t) (omega arith);
      above = rw (e, t, sym x, sym y) (omega arith);
      digits = omega arith;
      exact = λ j f.
          let u = h.exact j f in
          let v : n * (w * 2 ^ b) ≤ w * w = subst (λ l. n * (w * 2 ^ b) ≤ l * l) u.0 k.below in
          let z = unit_squared w b n o s k.least v in
          let none = z.1 in
          let before = u.1 in
          (z.0, rw (p, none, before) (omega arith));
    }

pub read_turn : (w a i r m n b : ℕ) → 0 < w → IsRead w a i r m → IsSquared w m b n → IsRead w a (i + 1) (2 * r + b) n
read_turn w a i r m n b o h k = let e : i + 1 ≡ suc i = omega arith in rw e (read_on w a i r m n b o h k)

-- the digits fit a word of as many bits as the unit has, and one
pub room : (w a i r m p e : ℕ) → i < p → p + 7 ≤ e → IsRead w a i r m → 2 * r + 1 < 2 ^ e
room w a i r m p e l h d =
    let x = pow-suc 2 i in
    let few : suc i + 7 ≤ e = omega arith in
    let y : 2 ^ (suc i + 7) ≤ 2 ^ e = pow-le-pow_right {n = 2} (omega arith) {i = suc i + 7} {j = e} few in
    let z = d.digits in
    let t = pow-add 2 (suc i) 7 in
    let seven : 2 ^ 7 ≡ 128 = refl in
    omega arith

-- ---- all digits are read

-- raised to the power q, the factor costs a factor of 2
raised_below : (A P w N q : ℕ) → 0 < w → 0 < q → 2 * (N * q) ≤ w → A * w ^ N < P * (w + 1) ^ N → A ^ q < P ^ q * 2
raised_below A P w N q o z s h =
    let up : (A * w ^ N) ^ q < (P * (w + 1) ^ N) ^ q = pow-lt-pow_left h (omega arith) in
    let a = mul-pow A (w ^ N) q in
    let b = mul-pow P ((w + 1) ^ N) q in
    let c = pow_times w N q in
    let d = pow_times (w + 1) N q in
    let e : A ^ q * w ^ (N * q) < P ^ q * (w + 1) ^ (N * q) = rw (sym c, sym d, sym a, sym b) up in
    let g = mul-le-mul_left (P ^ q) (growth_within w (N * q) o s) in
    let t : A ^ q * w ^ (N * q) < P ^ q * 2 * w ^ (N * q) = omega arith in
    lt_of_mul-lt-mul_right (w ^ (N * q)) t

pub read_near : (w a g k r m : ℕ) → 0 < w → IsRead w a g r m → 2 * (2 ^ g * 2 ^ k) ≤ w → IsLog2 a g k r
read_near w a g k r m o h s =
    let n = h.turns in
    let b = h.below in
    let u = h.above in
    let q = h.turns_are in
    let A = a ^ 2 ^ g in
    let mant = mul-le-mul_left (2 ^ r) h.least in
    let lo : 2 ^ r * w ≤ A * w = omega arith in
    let c = one-le-pow n (w + 1) (omega arith) in
    let p = pow_pos r in
    let big : 2 ^ r * m + 1 ≤ 2 ^ r * (2 * w) = let x = mul-le-mul_left (2 ^ r) h.most in omega arith in
    let bigger = mul-le-mul_right ((w + 1) ^ n) big in
    let hi : A * w ^ n * w < 2 ^ r * 2 * (w + 1) ^ n * w = omega arith in
    let hi_2 : A * w ^ n < 2 ^ r * 2 * (w + 1) ^ n = lt_of_mul-lt-mul_right w hi in
    let few : n * 2 ^ k ≤ 2 ^ g * 2 ^ k = mul-le-mul_right (2 ^ k) (omega arith) in
    let t = raised_below A (2 ^ r * 2) w n (2 ^ k) o (pow_pos k) (omega arith) hi_2 in
    let e1 = pow_times a (2 ^ g) (2 ^ k) in
    let e2 : 2 ^ r * 2 ≡ 2 ^ (r + 1) = sym (pow-add 2 r 1) in
    let e3 = pow_times 2 (r + 1) (2 ^ k) in
    let e4 = pow-add 2 ((r + 1) * 2 ^ k) 1 in
    record {
      below = le_of_mul-le-mul_right lo o;
      above = rw (sym e1, e4, sym e3, sym e2) t;
    }

enough : (room g k : ℕ) → g + k ≤ room → 2 * (2 ^ g * 2 ^ k) ≤ 2 ^ (room + 1)
enough room g k h =
    let a = pow-add 2 g k in
    let b : 2 ^ (g + k) ≤ 2 ^ room = pow-le-pow_right {n = 2} (omega arith) {i = g + k} {j = room} h in
    let c = pow-add 2 room 1 in
    omega arith

pub read_all : (room w a g i r m : ℕ) → w ≡ 2 ^ (room + 1) → i ≡ g → IsRead w a i r m → IsFound room a g r
read_all room w a g i r m u e h =
    let all = subst (λ (j : ℕ). IsRead w a j r m) e h in
    let o : 0 < w = omega (arith, pow_pos (room + 1)) in
    record {
      near = λ k l. read_near w a g k r m o all (omega (arith, enough room g k l));
      exact = λ j p. (all.exact j p).1;
    }

-- ---- the mantissa

-- z zeros before a
pub normal : (a z d : ℕ) → d + z ≡ 64 → 1 ≤ a → a < 2 ^ d → 2 ^ d ≤ a + a + 1 → (z ≤ 63) × (a * 2 ^ z < 2 ^ 64) × (2 ^ 63 ≤ a * 2 ^ z)
normal a z zero s o l h = let e = pow-zero 2 in absurd (omega arith)
normal a z (suc d) s o l h =
    let e = pow-suc 2 d in
    let p = pow-add 2 (suc d) z in
    let q = pow-add 2 d z in
    let t : suc d + z ≡ 64 = s in
    let u : d + z ≡ 63 = omega arith in
    let v : 2 ^ 64 ≡ 2 ^ suc d * 2 ^ z = ap (λ n. 2 ^ n) (sym t) ∙ p in
    let x : 2 ^ 63 ≡ 2 ^ d * 2 ^ z = ap (λ n. 2 ^ n) (sym u) ∙ q in
    let i : a + 1 ≤ 2 ^ suc d = omega arith in
    let j : 2 ^ d ≤ a = omega arith in
    let m = mul-le-mul_right (2 ^ z) i in
    let n = mul-le-mul_right (2 ^ z) j in
    let y = pow_pos z in
    (omega arith, rw v (omega arith), rw x (omega arith))

whole_is : (a z d : ℕ) → d + z ≡ 63 → 2 ^ d * (a * 2 ^ z) ≡ a * 2 ^ 63
whole_is a z d s =
    let p = pow-add 2 d z in
    let x : 2 ^ 63 ≡ 2 ^ d * 2 ^ z = ap (λ n. 2 ^ n) (sym s) ∙ p in
    rw x (omega arith)

pub mantissa_is : (a z d m : ℕ) → z ≤ 63 → a * 2 ^ z < 2 ^ 64 → 2 ^ 63 ≤ a * 2 ^ z → d ≡ 63 - z → m ≡ a * 2 ^ z → IsMantissa (2 ^ 63) a d m
mantissa_is a z d m few low high e f =
    rw f (record { least = high; most = omega arith; digits = omega arith; value = whole_is a z d (omega arith) })

pub broad_is : (a d m b n : ℕ) → IsMantissa (2 ^ 63) a d m → b ≡ d → n ≡ m * 2 ^ 64 → IsMantissa (2 ^ 127) a b n
broad_is a d m b n h f e =
    let v = h.value in
    let t : 2 ^ d * m * 2 ^ 64 ≡ a * 2 ^ 63 * 2 ^ 64 = ap (λ x. x * 2 ^ 64) v in
    rw (f, e) (record { least = omega (arith, h.least); most = omega (arith, h.most); digits = h.digits; value = omega arith })

-- ---- the logarithm of a number of units

pub log2_is : (n b : ℕ) (a : ℤ) (m f u : ℕ) → b ≡ n → pos 0 <ℤ a → m ≡ unsigned_abs a → IsFound (log2_room b) m f u → IsLog2Of (log2_room n) a f (pos u -ℤ pos (f * 2 ^ f))
log2_is n b a m f u w o e h = rw (sym w) (record {
  units = u;
  value = refl;
  near = λ k l. subst (λ (x : ℕ). IsLog2 x f k u) e (h.near k l);
  exact = λ j p. h.exact j (e ∙ ap unsigned_abs p);
})

pub below_zero : (u b : ℕ) → u < b → pos u -ℤ pos b ≡ neg_ℤ (pos (b - u))
below_zero u b h = omega (arith, ints)
