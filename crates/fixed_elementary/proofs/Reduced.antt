-- Logarithms by factors: one factor taken from a mantissa.
use Rattle.std.proofs.Common.{◌≡◌, ◌+◌, ◌*◌, ◌^◌, ◌<◌, ◌≤◌, ℕ, suc, ap, sym, subst, ◌∙◌, inl, inr, arith}
use Rattle.std.proofs.Math.Nat.{le_of_mul-le-mul_right, mul-le-mul_right, mul-le-mul_left, pow-le-pow_left, pow-le-pow_right, one-le-pow, pow-suc, pow-zero}
use Rattle.std.proofs.lemmas.Nat.{mul-le, mul-pow, pow-add, pow_pos}
use Rattle.std.proofs.lemmas.Bool.{cases_lt}
use Rattle.fixed_elementary.specs.inside.Reduced.{IsFactor, IsOver}
use Rattle.fixed_elementary.proofs.Squarings.{growth_within}
use Rattle.fixed_elementary.proofs.Reading.{pow_times, root_le}

pub power_some : (n e : ℕ) → 0 < n → 0 < n ^ e
power_some n e o = let a = one-le-pow e n o in omega arith

-- ---- one factor

-- n is m c over 2^63, rounded down
over_below : (h u m c n l : ℕ) → 0 < u → n * u ≤ m * c → 2 ^ l * c ^ 2 ^ h ≤ u ^ 2 ^ h → 2 ^ l * n ^ 2 ^ h ≤ m ^ 2 ^ h
over_below h u m c n l o f k =
    let N = 2 ^ h in
    let p = pow-le-pow_left f N in
    let a = mul-pow n u N in
    let b = mul-pow m c N in
    let q : n ^ N * u ^ N ≤ m ^ N * c ^ N = rw (sym a, sym b) p in
    let x = mul-le-mul_left (2 ^ l) q in
    let y = mul-le-mul_left (m ^ N) k in
    let t : 2 ^ l * n ^ N * u ^ N ≤ m ^ N * u ^ N = omega arith in
    le_of_mul-le-mul_right t (power_some u N o)

over_above : (h u m c n l : ℕ) → 0 < c → m * c ≤ (n + 1) * u → (n + 1) ^ 2 ^ h ≤ 2 * n ^ 2 ^ h → u ^ 2 ^ h ≤ 2 ^ (l + 2) * c ^ 2 ^ h → m ^ 2 ^ h ≤ 2 ^ (l + 3) * n ^ 2 ^ h
over_above h u m c n l o f g k =
    let N = 2 ^ h in
    let p = pow-le-pow_left f N in
    let a = mul-pow (n + 1) u N in
    let b = mul-pow m c N in
    let q : m ^ N * c ^ N ≤ (n + 1) ^ N * u ^ N = rw (sym a, sym b) p in
    let x = mul-le ((n + 1) ^ N) (u ^ N) (2 * n ^ N) (2 ^ (l + 2) * c ^ N) g k in
    let three : l + 3 ≡ suc (l + 2) = omega arith in
    let e : 2 ^ (l + 3) ≡ 2 ^ (l + 2) * 2 = ap (λ (j : ℕ). 2 ^ j) three ∙ pow-suc 2 (l + 2) in
    let t : m ^ N * c ^ N ≤ 2 ^ (l + 3) * n ^ N * c ^ N = rw e (omega arith) in
    le_of_mul-le-mul_right t (power_some c N o)

pub over_factor : (h m c n l : ℕ) → 0 < c → 2 ^ (h + 1) ≤ n → n * 2 ^ 63 ≤ m * c → m * c ≤ (n + 1) * 2 ^ 63 → IsFactor h c l → IsOver h 3 m n l
over_factor h m c n l o least low high f =
    let s = pow-add 2 h 1 in
    let some : 0 < n = omega (arith, pow_pos (h + 1)) in
    record {
      below = over_below h (2 ^ 63) m c n l (omega arith) low f.below;
      above = over_above h (2 ^ 63) m c n l o high (growth_within n (2 ^ h) some (omega arith)) f.above;
    }

-- ---- units

-- in units that are 2^j times as large
pub factor_in : (h j c l k : ℕ) → k * 2 ^ j ≤ l → l < (k + 1) * 2 ^ j → IsFactor (h + j) c l → IsFactor h c k
factor_in h j c l k low high f =
    let e : 2 ^ (h + j) ≡ 2 ^ h * 2 ^ j = pow-add 2 h j in
    let c_is = pow_times c (2 ^ h) (2 ^ j) in
    let u_is = pow_times (2 ^ 63) (2 ^ h) (2 ^ j) in
    let k_is = pow_times 2 k (2 ^ j) in
    let more_is = pow_times 2 (k + 2) (2 ^ j) in
    let o = pow_pos j in
    let p : 2 ^ (k * 2 ^ j) ≤ 2 ^ l = pow-le-pow_right {n = 2} (omega arith) low in
    let q : 2 ^ (l + 2) ≤ 2 ^ ((k + 2) * 2 ^ j) = pow-le-pow_right {n = 2} (omega arith) (omega arith) in
    let f_below : 2 ^ l * c ^ (2 ^ h * 2 ^ j) ≤ (2 ^ 63) ^ (2 ^ h * 2 ^ j) = subst (λ (n : ℕ). 2 ^ l * c ^ n ≤ (2 ^ 63) ^ n) e f.below in
    let f_above : (2 ^ 63) ^ (2 ^ h * 2 ^ j) ≤ 2 ^ (l + 2) * c ^ (2 ^ h * 2 ^ j) = subst (λ (n : ℕ). (2 ^ 63) ^ n ≤ 2 ^ (l + 2) * c ^ n) e f.above in
    let x = mul-le-mul_right (c ^ (2 ^ h * 2 ^ j)) p in
    let y = mul-le-mul_right (c ^ (2 ^ h * 2 ^ j)) q in
    let a = mul-pow (2 ^ k) (c ^ 2 ^ h) (2 ^ j) in
    let b = mul-pow (2 ^ (k + 2)) (c ^ 2 ^ h) (2 ^ j) in
    let low_all : (2 ^ k * c ^ 2 ^ h) ^ 2 ^ j ≤ ((2 ^ 63) ^ 2 ^ h) ^ 2 ^ j = rw (a, u_is, k_is, c_is) (omega arith) in
    let high_all : ((2 ^ 63) ^ 2 ^ h) ^ 2 ^ j ≤ (2 ^ (k + 2) * c ^ 2 ^ h) ^ 2 ^ j = rw (b, u_is, more_is, c_is) (omega arith) in
    record {
      below = root_le (2 ^ k * c ^ 2 ^ h) ((2 ^ 63) ^ 2 ^ h) (2 ^ j) o low_all;
      above = root_le ((2 ^ 63) ^ 2 ^ h) (2 ^ (k + 2) * c ^ 2 ^ h) (2 ^ j) o high_all;
    }

-- ---- all factors

pub over_itself : (h m : ℕ) → IsOver h 0 m m 0
over_itself h m =
    let z = pow-zero 2 in
    record {
      below = rw z (omega arith);
      above = rw z (omega arith);
    }

pub over_on : (h e d m n p l k : ℕ) → IsOver h e m n l → IsOver h d n p k → IsOver h (e + d) m p (l + k)
over_on h e d m n p l k f g =
    let a = pow-add 2 l k in
    let order : l + k + (e + d) ≡ l + e + (k + d) = omega arith in
    let b = pow-add 2 (l + e) (k + d) in
    let x = mul-le-mul_left (2 ^ l) g.below in
    let y = mul-le-mul_left (2 ^ (l + e)) g.above in
    let f_low = f.below in
    let f_high = f.above in
    record {
      below = rw a (omega arith);
      above = rw (order, b) (omega arith);
    }

pub over_next : (h i m n p l k : ℕ) → IsOver h (3 * i) m n l → IsOver h 3 n p k → IsOver h (3 * (i + 1)) m p (l + k)
over_next h i m n p l k f g = let e : 3 * i + 3 ≡ 3 * (i + 1) = omega arith in subst (λ (s : ℕ). IsOver h s m p (l + k)) e (over_on h (3 * i) 3 m n p l k f g)

-- a logarithm of less than twice n is at most 1
pub log_most : (h e w m n l : ℕ) → 0 < w → w ≤ n → m ≤ 2 * w → IsOver h e m n l → l ≤ 2 ^ h
log_most h e w m n l o least most f =
    let N = 2 ^ h in
    let f_low = f.below in
    let p = pow-le-pow_left least N in
    let q = pow-le-pow_left most N in
    let a = mul-pow 2 w N in
    let x = mul-le-mul_left (2 ^ l) p in
    let t : 2 ^ l * w ^ N ≤ 2 ^ N * w ^ N = rw (sym a) (omega arith) in
    let u : 2 ^ l ≤ 2 ^ N = le_of_mul-le-mul_right t (power_some w N o) in
    elim (cases_lt N l) [
      | inl less ↦ let s : 2 ^ suc N ≤ 2 ^ l = pow-le-pow_right {n = 2} (omega arith) {i = suc N} {j = l} less in absurd (omega (arith, pow-suc 2 N, pow_pos N))
      | inr fine ↦ fine
    ]
