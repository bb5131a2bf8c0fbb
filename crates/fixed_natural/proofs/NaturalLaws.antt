-- Laws of logarithms and powers to bases 2^(p / q).
use Rattle.std.proofs.Common.{◌≡◌, ◌+◌, ◌-◌, ◌*◌, ◌^◌, ◌<◌, ◌≤◌, ◌≤ℤ◌, ◌<ℤ◌, ◌+ℤ◌, ℕ, ℤ, pos, suc, zero, true, refl, ap, sym, subst, ◌∙◌, inl, inr, arith}
use Rattle.std.specs.Prelude.{unsigned_abs}
use Rattle.std.proofs.lemmas.Int.{ints}
use Rattle.std.proofs.lemmas.Bool.{cases_lt}
use Rattle.std.proofs.lemmas.Nat.{mul-le, mul-pow, pow-add, pow_pos}
use Rattle.std.proofs.Math.Nat.{one-le-pow, pow-suc, pow-zero, mul-le-mul_left, le_of_mul-le-mul_right, lt_of_mul-lt-mul_right, mul-le-mul_right, mul-le-mul_left, pow-le-pow_left, pow-le-pow_right, pow-lt-pow_left}
use Rattle.fixed_word.specs.Format.{InRange}
use Rattle.fixed_elementary.proofs.Reading.{pow_times, root_lt}
use Rattle.fixed_elementary.proofs.LogLaws.{exponent_less}
use Rattle.fixed_natural.specs.Bases.{decimals, log2_e}
use Rattle.fixed_natural.specs.Exps.{IsExp, IsExpTo, exp_room}
use Rattle.fixed_natural.specs.Logs.{IsLogTo}
use Rattle.fixed_natural.specs.Pows.{IsPow, IsPowTo, pow_room}

-- exponents are in the order of the powers of two
exponent_le : (i j : ℕ) → 2 ^ i ≤ 2 ^ j → i ≤ j
exponent_le i j h = elim (cases_lt j i) [
  | inl less ↦
      let p : 2 ^ suc j ≤ 2 ^ i = pow-le-pow_right {n = 2} (omega arith) {i = suc j} {j = i} less in
      let e = pow-add 2 j 1 in
      let s : 2 ^ suc j ≡ 2 ^ (j + 1) = let t : suc j ≡ j + 1 = omega arith in ap (λ n. 2 ^ n) t in
      absurd (omega (arith, pow_pos j))
  | inr fine ↦ fine
]

two_at_least : (k : ℕ) → 1 ≤ k → 2 ≤ 2 ^ k
two_at_least k h = let p : 2 ^ 1 ≤ 2 ^ k = pow-le-pow_right {n = 2} (omega arith) {i = 1} {j = k} h in omega arith

-- x j is at most y j + 1, so x is at most y
without_part : (x y j p : ℕ) → 0 < p → 2 ≤ j → x * j * p ≤ (y * j + 1) * p → x ≤ y
without_part x y j p o two h =
    let a : x * j ≤ y * j + 1 = le_of_mul-le-mul_right h o in
    elim (cases_lt y x) [
      | inl more ↦ let b : (y + 1) * j ≤ x * j = mul-le-mul_right j (omega arith) in absurd (omega arith)
      | inr fine ↦ fine
    ]

-- ---- a, raised, is at most 2^m, and so the logarithm at most so much

at_most : (p q a f k m : ℕ) (r : ℤ) → a ^ (2 ^ f * q * 2 ^ k) ≤ 2 ^ m → (h : IsLogTo p q a f k r) → h.up * 2 ^ k * p + f * 2 ^ f * q * 2 ^ k ≤ m + (h.down * 2 ^ k + 1) * p
at_most p q a f k m r l h =
    let z = (h.down * 2 ^ k + 1) * p in
    let d : a ^ (2 ^ f * q * 2 ^ k) * 2 ^ z ≤ 2 ^ m * 2 ^ z = mul-le-mul_right (2 ^ z) l in
    let e = pow-add 2 m z in
    let low = h.below in
    exponent_le (h.up * 2 ^ k * p + f * 2 ^ f * q * 2 ^ k) (m + z) (omega arith)

at_least : (p q a f k m : ℕ) (r : ℤ) → 2 ^ m ≤ a ^ (2 ^ f * q) → (h : IsLogTo p q a f k r) → m + h.down * p < (h.up + 1) * p + f * 2 ^ f * q
at_least p q a f k m r l h =
    let d : 2 ^ m * 2 ^ (h.down * p) ≤ a ^ (2 ^ f * q) * 2 ^ (h.down * p) = mul-le-mul_right (2 ^ (h.down * p)) l in
    let e = pow-add 2 m (h.down * p) in
    let high = h.above in
    exponent_less (m + h.down * p) ((h.up + 1) * p + f * 2 ^ f * q) (omega arith)

raised_most : (a m n : ℕ) → a ≤ 2 ^ m → a ^ n ≤ 2 ^ (m * n)
raised_most a m n l = let b : a ^ n ≤ (2 ^ m) ^ n = pow-le-pow_left l n in let c = pow_times 2 m n in omega arith

raised_least : (a m n : ℕ) → 2 ^ m ≤ a → 2 ^ (m * n) ≤ a ^ n
raised_least a m n l = let b : (2 ^ m) ^ n ≤ a ^ n = pow-le-pow_left l n in let c = pow_times 2 m n in omega arith

-- ---- the logarithm of 1

pub log_of_one : (p q f k : ℕ) (r : ℤ) → 0 < p → 1 ≤ k → IsLogTo p q (2 ^ f) f k r → r ≡ pos 0
log_of_one p q f k r o one h =
    let v = h.value in
    let a = at_most p q (2 ^ f) f k (f * (2 ^ f * q * 2 ^ k)) r (raised_most (2 ^ f) f (2 ^ f * q * 2 ^ k) (omega arith)) h in
    let b = at_least p q (2 ^ f) f k (f * (2 ^ f * q)) r (raised_least (2 ^ f) f (2 ^ f * q) (omega arith)) h in
    let low : h.up ≤ h.down = without_part h.up h.down (2 ^ k) p o (two_at_least k one) (omega arith) in
    let c : h.down * p < (h.up + 1) * p = omega arith in
    let high = lt_of_mul-lt-mul_right p c in
    omega (arith, ints)

-- ---- where it fits

pub log_fits : (p q k n f : ℕ) (a r : ℤ) → 0 < p → q ≤ p → 1 ≤ k → f < n → f * 2 ^ f ≤ 2 ^ (n - 1) → (n - 1 - f) * 2 ^ f < 2 ^ (n - 1) → InRange true n a → pos 0 <ℤ a
    → IsLogTo p q (unsigned_abs a) f k r → InRange true n r
log_fits p q k n f a r o base one less low high range above h =
    let v = h.value in
    let top = range.1 in
    let small : unsigned_abs a ≤ 2 ^ (n - 1) = omega (arith, ints, pow_pos (n - 1)) in
    let unit : 2 ^ 0 ≡ 1 = refl in
    let some : 2 ^ 0 ≤ unsigned_abs a = omega (arith, ints) in
    let x = at_most p q (unsigned_abs a) f k ((n - 1) * (2 ^ f * q * 2 ^ k)) r (raised_most (unsigned_abs a) (n - 1) (2 ^ f * q * 2 ^ k) small) h in
    let y = at_least p q (unsigned_abs a) f k (0 * (2 ^ f * q)) r (raised_least (unsigned_abs a) 0 (2 ^ f * q) some) h in
    let d : (n - 1) * (2 ^ f * q * 2 ^ k) ≡ (n - 1 - f) * (2 ^ f * q * 2 ^ k) + f * (2 ^ f * q * 2 ^ k) = split (n - 1) (n - 1 - f) f (2 ^ f * q * 2 ^ k) (omega arith) in
    let g : (n - 1 - f) * 2 ^ f * 2 ^ k * q ≤ (n - 1 - f) * 2 ^ f * 2 ^ k * p = mul-le-mul_left ((n - 1 - f) * 2 ^ f * 2 ^ k) base in
    let s : h.up * 2 ^ k * p ≤ (((n - 1 - f) * 2 ^ f + h.down) * 2 ^ k + 1) * p = omega arith in
    let up : h.up ≤ (n - 1 - f) * 2 ^ f + h.down = without_part h.up ((n - 1 - f) * 2 ^ f + h.down) (2 ^ k) p o (two_at_least k one) s in
    let i : f * 2 ^ f * q ≤ f * 2 ^ f * p = mul-le-mul_left (f * 2 ^ f) base in
    let t : h.down * p < (h.up + 1 + f * 2 ^ f) * p = omega arith in
    let down = lt_of_mul-lt-mul_right p t in
    (omega (arith, ints), omega (arith, ints))
  where
    split : (x y z p : ℕ) → x ≡ y + z → x * p ≡ y * p + z * p
    split x y z p s = rw s (omega arith)

-- ---- two logarithms of one number

pub log_near : (p q a f k : ℕ) (r s : ℤ) → 0 < p → 1 ≤ k → IsLogTo p q a f k r → IsLogTo p q a f k s → r ≤ℤ (s +ℤ pos 1)
log_near p q a f k r s o one g h =
    let v = g.value in
    let w = h.value in
    let n = 2 ^ f * q in
    let j = 2 ^ k in
    let x = (h.up + 1) * p + f * 2 ^ f * q in
    let up : (a ^ n * 2 ^ (h.down * p)) ^ j ≤ (2 ^ x) ^ j = pow-le-pow_left (omega (arith, h.above)) j in
    let b = mul-pow (a ^ n) (2 ^ (h.down * p)) j in
    let c = pow_times a n j in
    let d = pow_times 2 (h.down * p) j in
    let e = pow_times 2 x j in
    let same : (a ^ n * 2 ^ (h.down * p)) ^ j ≡ a ^ (n * j) * 2 ^ (h.down * p * j) = b ∙ ap (λ y. y * (2 ^ (h.down * p)) ^ j) c ∙ ap (λ y. a ^ (n * j) * y) d in
    let high : a ^ (n * j) * 2 ^ (h.down * p * j) ≤ 2 ^ (x * j) = subst (λ y. a ^ (n * j) * 2 ^ (h.down * p * j) ≤ y) e (subst (λ y. y ≤ (2 ^ x) ^ j) same up) in
    let z = (g.down * j + 1) * p in
    let m = mul-le-mul_right (2 ^ z) high in
    let l = mul-le-mul_right (2 ^ (h.down * p * j)) g.below in
    let i = pow-add 2 (g.up * j * p + f * 2 ^ f * q * j) (h.down * p * j) in
    let u = pow-add 2 (x * j) z in
    let t = exponent_le (g.up * j * p + f * 2 ^ f * q * j + h.down * p * j) (x * j + z) (omega arith) in
    let y : (g.up + h.down) * j * p ≤ ((h.up + 1 + g.down) * j + 1) * p = omega arith in
    let all = without_part (g.up + h.down) (h.up + 1 + g.down) j p o (two_at_least k one) y in
    omega (arith, ints)

-- ---- the logarithm of a power of the base b

power_of : (b j q f m : ℕ) → (b ^ j * 2 ^ f) ^ (2 ^ f * q * m) ≡ (b ^ q) ^ (j * 2 ^ f * m) * 2 ^ (f * (2 ^ f * q * m))
power_of b j q f m =
    let n = 2 ^ f * q * m in
    let x = mul-pow (b ^ j) (2 ^ f) n in
    let y = pow_times b j n in
    let z = pow_times 2 f n in
    let w = pow_times b q (j * 2 ^ f * m) in
    let e : j * n ≡ q * (j * 2 ^ f * m) = omega arith in
    x ∙ ap (λ k. k * (2 ^ f) ^ n) (y ∙ ap (λ k. b ^ k) e ∙ sym w) ∙ ap (λ k. (b ^ q) ^ (j * 2 ^ f * m) * k) z

pub log_of_power : (b p q j k f : ℕ) (r : ℤ) → 0 < p → 1 ≤ k → 2 ^ p ≤ b ^ q → b ^ q ≤ 2 ^ (p + 1) → IsLogTo p q (b ^ j * 2 ^ f) f k r → IsLogTo (p + 1) q (b ^ j * 2 ^ f) f k r
    → r ≡ pos (j * 2 ^ f)
log_of_power b p q j k f r o one least most g h =
    let v = g.value in
    let w = h.value in
    let a = b ^ j * 2 ^ f in
    let x = power_of b j q f (2 ^ k) in
    let y = power_of b j q f 1 in
    let up = raised_most (b ^ q) (p + 1) (j * 2 ^ f * 2 ^ k) most in
    let down = raised_least (b ^ q) p (j * 2 ^ f * 1) least in
    let n = 2 ^ f * q * 2 ^ k in
    let c = pow-add 2 ((p + 1) * (j * 2 ^ f * 2 ^ k)) (f * n) in
    let d = pow-add 2 (p * (j * 2 ^ f * 1)) (f * (2 ^ f * q * 1)) in
    let e : 2 ^ f * q * 1 ≡ 2 ^ f * q = omega arith in
    let s : (b ^ q) ^ (j * 2 ^ f * 2 ^ k) * 2 ^ (f * n) ≤ 2 ^ ((p + 1) * (j * 2 ^ f * 2 ^ k)) * 2 ^ (f * n) = mul-le-mul_right (2 ^ (f * n)) up in
    let t : 2 ^ (p * (j * 2 ^ f * 1)) * 2 ^ (f * (2 ^ f * q * 1)) ≤ (b ^ q) ^ (j * 2 ^ f * 1) * 2 ^ (f * (2 ^ f * q * 1)) = mul-le-mul_right (2 ^ (f * (2 ^ f * q * 1))) down in
    let high : a ^ n ≤ 2 ^ ((p + 1) * (j * 2 ^ f * 2 ^ k) + f * n) = rw (x, c) s in
    let low : 2 ^ (p * (j * 2 ^ f * 1) + f * (2 ^ f * q * 1)) ≤ a ^ (2 ^ f * q * 1) = rw (y, d) t in
    let lower : 2 ^ (p * (j * 2 ^ f * 1) + f * (2 ^ f * q * 1)) ≤ a ^ (2 ^ f * q) = subst (λ k. 2 ^ (p * (j * 2 ^ f * 1) + f * (2 ^ f * q * 1)) ≤ a ^ k) e low in
    let first = at_most (p + 1) q a f k ((p + 1) * (j * 2 ^ f * 2 ^ k) + f * n) r high h in
    let second = at_least p q a f k (p * (j * 2 ^ f * 1) + f * (2 ^ f * q * 1)) r lower g in
    let i : h.up * 2 ^ k * (p + 1) ≤ ((j * 2 ^ f + h.down) * 2 ^ k + 1) * (p + 1) = omega arith in
    let above = without_part h.up (j * 2 ^ f + h.down) (2 ^ k) (p + 1) (omega arith) (two_at_least k one) i in
    let l : (j * 2 ^ f + g.down) * p < (g.up + 1) * p = omega arith in
    let below = lt_of_mul-lt-mul_right p l in
    omega (arith, ints)

-- ---- powers

pub exp_of_zero : (f : ℕ) (r : ℤ) → IsExp (pos 0) f r → r ≡ pos (2 ^ f)
exp_of_zero f r h = h.value ∙ ap pos (h.exact refl)

pub exp_from_zero : (f : ℕ) (a r : ℤ) → IsExp a f r → pos 0 ≤ℤ r
exp_from_zero f a r h = let v = h.value in omega (arith, ints)

-- ---- how large

-- (1 + 1 / w)^n is at least 1 + n / w
growth_least : (w n : ℕ) → w ^ n * (w + n) ≤ (w + 1) ^ n * w
growth_least w zero =
    let a = pow-zero w in
    let b = pow-zero (w + 1) in
    rw (a, b) (omega arith)
growth_least w (suc n) =
    let a = pow-suc w n in
    let b = pow-suc (w + 1) n in
    let h = mul-le-mul_right (w + 1) (growth_least w n) in
    let g : w * (w + suc n) ≤ (w + n) * (w + 1) = omega arith in
    let m = mul-le-mul_left (w ^ n) g in
    rw (a, b) (omega arith)

-- r is at most w, where r to the power n j is at most that of w times 2^n, and j is more than w
pub no_more : (w n j r : ℕ) → 0 < w → 0 < n → 2 * w ≤ j → r ^ (n * j) ≤ w ^ (n * j) * 2 ^ n → r ≤ w
no_more w n j r some o many h = elim (cases_lt w r) [
  | inl more ↦
      let up : (w + 1) ^ (n * j) ≤ r ^ (n * j) = pow-le-pow_left (omega arith) (n * j) in
      let a = growth_least w j in
      let b : w ^ j * (3 * w) ≤ w ^ j * (w + j) = mul-le-mul_left (w ^ j) (omega arith) in
      let c : 3 * w ^ j * w ≤ (w + 1) ^ j * w = omega arith in
      let d = le_of_mul-le-mul_right c some in
      let one = one-le-pow j w some in
      let e : 2 * w ^ j < (w + 1) ^ j = omega arith in
      let g : (2 * w ^ j) ^ n < ((w + 1) ^ j) ^ n = pow-lt-pow_left e (omega arith) in
      let i = mul-pow 2 (w ^ j) n in
      let k = pow_times w j n in
      let l = pow_times (w + 1) j n in
      let s : j * n ≡ n * j = omega arith in
      let t = ap (λ x. (w + 1) ^ x) s in
      let u = ap (λ x. w ^ x) s in
      let y : 2 ^ n * (w ^ j) ^ n ≡ 2 ^ n * w ^ (n * j) = ap (λ z. 2 ^ n * z) (k ∙ u) in
      absurd (omega arith)
  | inr fine ↦ fine
]

exp_at_most : (p q f k r m : ℕ) (a : ℤ) → (h : IsExpTo p q a f k r) → (h.up * p + f * 2 ^ f * q) * 2 ^ k + 2 ^ f * q ≤ m + h.down * p * 2 ^ k → r ^ (2 ^ f * q * 2 ^ k) ≤ 2 ^ m
exp_at_most p q f k r m a h l =
    let v = h.down * p * 2 ^ k in
    let x = (h.up * p + f * 2 ^ f * q) * 2 ^ k + 2 ^ f * q in
    let low = h.below in
    let b : 2 ^ x ≤ 2 ^ (m + v) = pow-le-pow_right {n = 2} (omega arith) {i = x} {j = m + v} l in
    let c = pow-add 2 m v in
    let d : r ^ (2 ^ f * q * 2 ^ k) * 2 ^ v ≤ 2 ^ m * 2 ^ v = omega arith in
    le_of_mul-le-mul_right d (pow_pos v)

pub exp_up_to_one : (f : ℕ) (a r : ℤ) → f ≤ 60 → a ≤ℤ pos 0 → IsExp a f r → r ≤ℤ pos (2 ^ f)
exp_up_to_one f a r small l h =
    let v = h.value in
    let low = h.low in
    let w = low.value in
    let j = 2 ^ exp_room in
    let n = 2 ^ f * decimals in
    let less : low.up ≤ low.down = omega (arith, ints) in
    let m : low.up * log2_e * j ≤ low.down * log2_e * j = mul-le-mul_right j (mul-le-mul_right log2_e less) in
    let some : 0 < n = omega (arith, pow_pos f) in
    let p : 2 ^ f ≤ 2 ^ 60 = pow-le-pow_right {n = 2} (omega arith) {i = f} {j = 60} small in
    let t = exp_at_most log2_e decimals f exp_room h.units (f * (n * j) + n) a low (omega arith) in
    let two = pow_times 2 f (n * j) in
    let sum = pow-add 2 (f * (n * j)) n in
    let most : h.units ^ (n * j) ≤ (2 ^ f) ^ (n * j) * 2 ^ n = rw (two, sym sum) t in
    let u = no_more (2 ^ f) n j h.units (pow_pos f) some (omega arith) most in
    omega (arith, ints)

pub exp_below : (m f a : ℕ) (r : ℤ) → (a * log2_e + f * 2 ^ f * decimals) * 2 ^ exp_room + 2 ^ f * decimals < m * 2 ^ f * decimals * 2 ^ exp_room → IsExp (pos a) f r → r <ℤ pos (2 ^ m)
exp_below m f a r l h =
    let v = h.value in
    let low = h.low in
    let w = low.value in
    let j = 2 ^ exp_room in
    let n = 2 ^ f * decimals in
    let sum : low.up ≡ a + low.down = omega (arith, ints) in
    let s : low.up * log2_e * j ≡ a * log2_e * j + low.down * log2_e * j = rw sum (omega arith) in
    let x = (a * log2_e + f * 2 ^ f * decimals) * 2 ^ exp_room + 2 ^ f * decimals in
    let t = exp_at_most log2_e decimals f exp_room h.units x (pos a) low (omega arith) in
    let b : 2 ^ suc x ≤ 2 ^ (m * (n * j)) = pow-le-pow_right {n = 2} (omega arith) {i = suc x} {j = m * (n * j)} (omega arith) in
    let two = pow-suc 2 x in
    let e = pow_times 2 m (n * j) in
    let y : h.units ^ (n * j) < (2 ^ m) ^ (n * j) = omega (arith, pow_pos x) in
    let u = root_lt h.units (2 ^ m) (n * j) y in
    omega (arith, ints)

-- ---- powers with other bases

pub pow_from_zero : (f : ℕ) (a b r : ℤ) → IsPow a b f r → pos 0 ≤ℤ r
pow_from_zero f a b r h = let v = h.1 in omega (arith, ints)

-- the numerator and the denominator of a power that is n
pow_exact_to : (a j f n r : ℕ) → 0 < a → 0 < n → n ≤ 2 ^ 54 → n ^ 2 ^ f * 2 ^ (f * j) ≡ a ^ j * 2 ^ (f * 2 ^ f) → IsPowTo a (pos j) f pow_room r → r ≡ n
pow_exact_to a j f n r o some small e h =
    let v = h.value in
    let down = h.down in
    let sum : h.up ≡ j + down = omega (arith, ints) in
    let x : a ^ h.up ≡ a ^ j * a ^ down = ap (λ k. a ^ k) sum ∙ pow-add a j down in
    let m : f * h.up ≡ f * j + f * down = rw sum (omega arith) in
    let y : 2 ^ (f * h.up) ≡ 2 ^ (f * j) * 2 ^ (f * down) = ap (λ k. 2 ^ k) m ∙ pow-add 2 (f * j) (f * down) in
    let z = pow-add 2 (f * down) (f * 2 ^ f) in
    let B = a ^ down * 2 ^ (f * h.up) in
    let c : n ^ 2 ^ f * 2 ^ (f * j) * (a ^ down * 2 ^ (f * down)) ≡ a ^ j * 2 ^ (f * 2 ^ f) * (a ^ down * 2 ^ (f * down)) = ap (λ k. k * (a ^ down * 2 ^ (f * down))) e in
    let all : a ^ h.up * 2 ^ (f * down + f * 2 ^ f) ≡ n ^ 2 ^ f * B = rw (x, y, z) (omega arith) in
    let high : n ^ 2 ^ f * B < (r + 1) ^ 2 ^ f * B = subst (λ k. k < (r + 1) ^ 2 ^ f * B) all h.above in
    let p = root_lt n (r + 1) (2 ^ f) (lt_of_mul-lt-mul_right B high) in
    let i = 2 ^ 55 in
    let low : r ^ (2 ^ f * i) * B ^ i ≤ (n ^ 2 ^ f * B) ^ i * 2 ^ 2 ^ f = subst (λ k. r ^ (2 ^ f * i) * B ^ i ≤ k ^ i * 2 ^ 2 ^ f) all h.below in
    let s = mul-pow (n ^ 2 ^ f) B i ∙ ap (λ k. k * B ^ i) (pow_times n (2 ^ f) i) in
    let t : (n ^ 2 ^ f * B) ^ i * 2 ^ 2 ^ f ≡ n ^ (2 ^ f * i) * 2 ^ 2 ^ f * B ^ i = ap (λ k. k * 2 ^ 2 ^ f) s ∙ omega arith in
    let q : r ^ (2 ^ f * i) * B ^ i ≤ n ^ (2 ^ f * i) * 2 ^ 2 ^ f * B ^ i = subst (λ k. r ^ (2 ^ f * i) * B ^ i ≤ k) t low in
    let positive : 0 < B = mul-le 1 1 (a ^ down) (2 ^ (f * h.up)) (one-le-pow down a o) (pow_pos (f * h.up)) in
    let u = le_of_mul-le-mul_right q (one-le-pow i B positive) in
    let w = no_more n (2 ^ f) i r some (pow_pos f) (omega arith) u in
    omega arith

pub pow_exact : (a j f n : ℕ) (r : ℤ) → 0 < a → 0 < n → n ≤ 2 ^ 54 → n ^ 2 ^ f * 2 ^ (f * j) ≡ a ^ j * 2 ^ (f * 2 ^ f) → IsPow (pos a) (pos j) f r → r ≡ pos n
pow_exact a j f n r o some small e h = h.1 ∙ ap pos (pow_exact_to a j f n h.0 o some small e h.2)

-- a is at most 1
pow_up_to_one_to : (a j f r : ℕ) → 0 < a → a ≤ 2 ^ f → f ≤ 54 → IsPowTo a (pos j) f pow_room r → r ≤ 2 ^ f
pow_up_to_one_to a j f r o one small h =
    let v = h.value in
    let down = h.down in
    let sum : h.up ≡ j + down = omega (arith, ints) in
    let x : a ^ h.up ≡ a ^ j * a ^ down = ap (λ k. a ^ k) sum ∙ pow-add a j down in
    let m : f * h.up ≡ f * j + f * down = rw sum (omega arith) in
    let y : 2 ^ (f * h.up) ≡ 2 ^ (f * j) * 2 ^ (f * down) = ap (λ k. 2 ^ k) m ∙ pow-add 2 (f * j) (f * down) in
    let z = pow-add 2 (f * down) (f * 2 ^ f) in
    let B = a ^ down * 2 ^ (f * h.up) in
    let A = a ^ h.up * 2 ^ (f * down + f * 2 ^ f) in
    let p : a ^ j ≤ (2 ^ f) ^ j = pow-le-pow_left one j in
    let e = pow_times 2 f j in
    let g : a ^ j ≤ 2 ^ (f * j) = omega arith in
    let rest = 2 ^ (f * 2 ^ f) * (a ^ down * 2 ^ (f * down)) in
    let c : a ^ j * rest ≤ 2 ^ (f * j) * rest = mul-le-mul_right rest g in
    let all : A ≤ 2 ^ (f * 2 ^ f) * B = rw (x, y, z) (omega arith) in
    let i = 2 ^ 55 in
    let d : A ^ i ≤ (2 ^ (f * 2 ^ f) * B) ^ i = pow-le-pow_left all i in
    let fold : (2 ^ (f * 2 ^ f)) ^ i ≡ (2 ^ f) ^ (2 ^ f * i) =
    let s : f * 2 ^ f * i ≡ f * (2 ^ f * i) = omega arith in
    pow_times 2 (f * 2 ^ f) i ∙ ap (λ k. 2 ^ k) s ∙ sym (pow_times 2 f (2 ^ f * i)) in
    let s = mul-pow (2 ^ (f * 2 ^ f)) B i ∙ ap (λ k. k * B ^ i) fold in
    let t : A ^ i ≤ (2 ^ f) ^ (2 ^ f * i) * B ^ i = subst (λ k. A ^ i ≤ k) s d in
    let up = mul-le-mul_right (2 ^ 2 ^ f) t in
    let low = h.below in
    let q : r ^ (2 ^ f * i) * B ^ i ≤ (2 ^ f) ^ (2 ^ f * i) * 2 ^ 2 ^ f * B ^ i = omega arith in
    let positive : 0 < B = mul-le 1 1 (a ^ down) (2 ^ (f * h.up)) (one-le-pow down a o) (pow_pos (f * h.up)) in
    let u = le_of_mul-le-mul_right q (one-le-pow i B positive) in
    let w : 2 ^ f ≤ 2 ^ 54 = pow-le-pow_right {n = 2} (omega arith) {i = f} {j = 54} small in
    no_more (2 ^ f) (2 ^ f) i r (pow_pos f) (pow_pos f) (omega arith) u

pub pow_up_to_one : (a j f : ℕ) (r : ℤ) → 0 < a → a ≤ 2 ^ f → f ≤ 54 → IsPow (pos a) (pos j) f r → r ≤ℤ pos (2 ^ f)
pow_up_to_one a j f r o one small h =
    let v = h.1 in
    let t = pow_up_to_one_to a j f h.0 o one small h.2 in
    omega (arith, ints)
