-- Powers of e, from powers of 2 with enclosed exponents.
use Rattle.std.proofs.Common.{◌≡◌, ◌+◌, ◌*◌, ◌^◌, ◌<◌, ◌≤◌, ℕ, refl, ap, sym, subst, ◌∙◌, arith}
use Rattle.std.proofs.lemmas.Nat.{mul-pow, pow-add, pow_pos}
use Rattle.std.proofs.Math.Nat.{le_of_mul-le-mul_right, mul-le-mul_right, lt_of_mul-lt-mul_right, mul-le-mul_left, pow-le-pow_left, pow-le-pow_right, pow-lt-pow_left}
use Rattle.fixed_elementary.proofs.Reading.{pow_times, root_le, root_lt}

-- ---- the exponents, in whole numbers: h, s and f are powers of 2, and 2 h = s f; c is p / 2 q in units of 1 / d

pub raised_below : (m f h s p q c d e : ℕ) → 0 < d → 2 * h ≡ s * f → e * d ≤ m * s * c → c * (2 * q) ≤ d * p → e * (f * q) ≤ m * p * h
raised_below m f h s p q c d e o two l i =
    let a : e * d * (2 * q) ≤ m * s * c * (2 * q) = mul-le-mul_right (2 * q) l in
    let b : m * s * (c * (2 * q)) ≤ m * s * (d * p) = mul-le-mul_left (m * s) i in
    let k : e * d * (2 * q) * f ≤ m * s * (d * p) * f = mul-le-mul_right f (omega arith) in
    let r : m * d * p * (2 * h) ≡ m * d * p * (s * f) = rw two refl in
    let t : e * (f * q) * (2 * d) ≤ m * p * h * (2 * d) = omega arith in
    le_of_mul-le-mul_right t (omega arith)

pub raised_above : (m f h s p q c d e : ℕ) → 0 < d → 2 * h ≡ s * f → m * s * c ≤ (e + 1) * d → m * s ≤ d → d * p ≤ (c + 1) * (2 * q) → m * p * h ≤ (e + 2) * (f * q)
raised_above m f h s p q c d e o two l n i =
    let a : m * s * c * (2 * q) ≤ (e + 1) * d * (2 * q) = mul-le-mul_right (2 * q) l in
    let b : m * s * (d * p) ≤ m * s * ((c + 1) * (2 * q)) = mul-le-mul_left (m * s) i in
    let g : m * s * (2 * q) ≤ d * (2 * q) = mul-le-mul_right (2 * q) n in
    let k : m * s * (d * p) * f ≤ (e + 2) * d * (2 * q) * f = mul-le-mul_right f (omega arith) in
    let r : m * d * p * (2 * h) ≡ m * d * p * (s * f) = rw two refl in
    let t : m * p * h * (2 * d) ≤ (e + 2) * (f * q) * (2 * d) = omega arith in
    le_of_mul-le-mul_right t (omega arith)

pub lowered_below : (m f h s p q c d e : ℕ) → 0 < d → 2 * h ≡ s * f → m * s * (c + 1) ≤ (e + 1) * d → d * p ≤ (c + 1) * (2 * q) → m * p * h ≤ (e + 1) * (f * q)
lowered_below m f h s p q c d e o two l i =
    let a : m * s * (c + 1) * (2 * q) ≤ (e + 1) * d * (2 * q) = mul-le-mul_right (2 * q) l in
    let b : m * s * (d * p) ≤ m * s * ((c + 1) * (2 * q)) = mul-le-mul_left (m * s) i in
    let k : m * s * (d * p) * f ≤ (e + 1) * d * (2 * q) * f = mul-le-mul_right f (omega arith) in
    let r : m * d * p * (2 * h) ≡ m * d * p * (s * f) = rw two refl in
    let t : m * p * h * (2 * d) ≤ (e + 1) * (f * q) * (2 * d) = omega arith in
    le_of_mul-le-mul_right t (omega arith)

pub lowered_above : (m f h s p q c d e : ℕ) → 0 < d → 2 * h ≡ s * f → e * d ≤ m * s * (c + 1) → m * s ≤ d → c * (2 * q) ≤ d * p → e * (f * q) ≤ f * q + m * p * h
lowered_above m f h s p q c d e o two l n i =
    let a : e * d * (2 * q) ≤ m * s * (c + 1) * (2 * q) = mul-le-mul_right (2 * q) l in
    let b : m * s * (c * (2 * q)) ≤ m * s * (d * p) = mul-le-mul_left (m * s) i in
    let g : m * s * (2 * q) ≤ d * (2 * q) = mul-le-mul_right (2 * q) n in
    let k : e * d * (2 * q) * f ≤ (d * (2 * q) + m * s * (d * p)) * f = mul-le-mul_right f (omega arith) in
    let r : m * d * p * (2 * h) ≡ m * d * p * (s * f) = rw two refl in
    let t : e * (f * q) * (2 * d) ≤ (f * q + m * p * h) * (2 * d) = omega arith in
    le_of_mul-le-mul_right t (omega arith)

-- ---- the powers: n is 2^f q, x the exponent's numerator, and v what lies below 0

pub exp_below : (r n h z v x : ℕ) → r ^ 2 ^ h ≤ 2 ^ z → z * n + v * 2 ^ h ≤ x * 2 ^ h → r ^ n * 2 ^ v ≤ 2 ^ x
exp_below r n h z v x l e =
    let up : (r ^ 2 ^ h) ^ n ≤ (2 ^ z) ^ n = pow-le-pow_left l n in
    let a = pow_times r (2 ^ h) n in
    let s : 2 ^ h * n ≡ n * 2 ^ h = omega arith in
    let b = sym (pow_times r n (2 ^ h)) in
    let i : (r ^ 2 ^ h) ^ n ≡ (r ^ n) ^ 2 ^ h = a ∙ ap (λ k. r ^ k) s ∙ b in
    let c = pow_times 2 z n in
    let d = pow_times 2 v (2 ^ h) in
    let j = pow_times 2 x (2 ^ h) in
    let g = pow-add 2 (z * n) (v * 2 ^ h) in
    let k : 2 ^ (z * n + v * 2 ^ h) ≤ 2 ^ (x * 2 ^ h) = pow-le-pow_right {n = 2} (omega arith) e in
    let low : (r ^ n) ^ 2 ^ h ≤ 2 ^ (z * n) = subst (λ y. (r ^ n) ^ 2 ^ h ≤ y) c (subst (λ y. y ≤ (2 ^ z) ^ n) i up) in
    let w : (r ^ n) ^ 2 ^ h * 2 ^ (v * 2 ^ h) ≤ 2 ^ (z * n) * 2 ^ (v * 2 ^ h) = mul-le-mul_right (2 ^ (v * 2 ^ h)) low in
    let m = mul-pow (r ^ n) (2 ^ v) (2 ^ h) in
    let t : (r ^ n * 2 ^ v) ^ 2 ^ h ≤ (2 ^ x) ^ 2 ^ h = rw (m, d, j) (omega arith) in
    root_le (r ^ n * 2 ^ v) (2 ^ x) (2 ^ h) (pow_pos h) t

pub exp_above : (R n h z v x : ℕ) → 0 < n → 2 ^ (z * 2 ^ h) < R ^ (2 ^ h * 2 ^ h) * 2 ^ 2 ^ h → x * 2 ^ h + n ≤ z * n + v * 2 ^ h → 2 ^ x < R ^ n * 2 ^ v
exp_above R n h z v x some l e =
    let A = 2 ^ h * 2 ^ h in
    let up : (2 ^ (z * 2 ^ h)) ^ n < (R ^ A * 2 ^ 2 ^ h) ^ n = pow-lt-pow_left l (omega arith) in
    let a = pow_times 2 (z * 2 ^ h) n in
    let b = mul-pow (R ^ A) (2 ^ 2 ^ h) n in
    let c = pow_times R A n in
    let d = pow_times 2 (2 ^ h) n in
    let g : (R ^ A * 2 ^ 2 ^ h) ^ n ≡ R ^ (A * n) * 2 ^ (2 ^ h * n) = b ∙ ap (λ y. y * (2 ^ 2 ^ h) ^ n) c ∙ ap (λ y. R ^ (A * n) * y) d in
    let first : 2 ^ (z * 2 ^ h * n) < R ^ (A * n) * 2 ^ (2 ^ h * n) = subst (λ y. y < R ^ (A * n) * 2 ^ (2 ^ h * n)) a (subst (λ y. (2 ^ (z * 2 ^ h)) ^ n < y) g up) in
    let wide : (2 ^ (z * 2 ^ h * n) + 1) * 2 ^ (v * A) ≤ R ^ (A * n) * 2 ^ (2 ^ h * n) * 2 ^ (v * A) = mul-le-mul_right (2 ^ (v * A)) (omega arith) in
    let scaled : (x * 2 ^ h + n) * 2 ^ h ≤ (z * n + v * 2 ^ h) * 2 ^ h = mul-le-mul_right (2 ^ h) e in
    let low : 2 ^ (x * A + 2 ^ h * n) ≤ 2 ^ (z * 2 ^ h * n + v * A) = pow-le-pow_right {n = 2} (omega arith) {i = x * A + 2 ^ h * n} {j = z * 2 ^ h * n + v * A} (omega arith) in
    let i = pow-add 2 (x * A) (2 ^ h * n) in
    let j = pow-add 2 (z * 2 ^ h * n) (v * A) in
    let all : 2 ^ (x * A) * 2 ^ (2 ^ h * n) < R ^ (A * n) * 2 ^ (v * A) * 2 ^ (2 ^ h * n) = omega (arith, pow_pos (v * A)) in
    let t = lt_of_mul-lt-mul_right (2 ^ (2 ^ h * n)) all in
    let o = pow_times 2 x A in
    let same : A * n ≡ n * A = omega arith in
    let u = ap (λ y. R ^ y) same ∙ sym (pow_times R n A) in
    let w = pow_times 2 v A in
    let y = mul-pow (R ^ n) (2 ^ v) A in
    let f : R ^ (A * n) * 2 ^ (v * A) ≡ (R ^ n * 2 ^ v) ^ A = ap (λ y. y * 2 ^ (v * A)) u ∙ ap (λ y. (R ^ n) ^ A * y) (sym w) ∙ sym y in
    root_lt (2 ^ x) (R ^ n * 2 ^ v) A (subst (λ y. (2 ^ x) ^ A < y) f (subst (λ y. y < R ^ (A * n) * 2 ^ (v * A)) (sym o) t))
