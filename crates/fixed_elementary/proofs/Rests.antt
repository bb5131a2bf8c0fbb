-- Logarithms of numbers little above 1: w units are 1, and w + u units the number.
use Rattle.std.proofs.Common.{◌≡◌, ◌+◌, ◌-◌, ◌*◌, ◌^◌, ◌<◌, ◌≤◌, ℕ, zero, suc, ap, sym, subst, ◌∙◌, arith}
use Rattle.std.proofs.Math.Nat.{le_of_mul-le-mul_right, mul-le-mul_right, mul-le-mul_left, pow-le-pow_left, pow-le-pow_right, pow-suc, pow-zero}
use Rattle.std.proofs.lemmas.Nat.{mul-le, mul-pow}
use Rattle.fixed_elementary.specs.inside.Reduced.{IsOver}
use Rattle.fixed_elementary.proofs.Reading.{pow_times, root_le}
use Rattle.fixed_elementary.proofs.Reduced.{power_some}

-- ---- powers of 1 + 1/w, by the first terms of their binomial sums: x = i / w

-- at most 1 + x + x^2 / 2 + x^3 / 3
power_most : (w i : ℕ) → i ≤ w → (w + 1) ^ i * (6 * w * w * w) ≤ w ^ i * (6 * w * w * w + 6 * i * w * w + 3 * i * i * w + 2 * i * i * i)
power_most w zero h =
    let a = pow-zero (w + 1) in
    let b = pow-zero w in
    rw (a, b) (omega arith)
power_most w (suc i) h =
    let before = power_most w i (omega arith) in
    let a = pow-suc (w + 1) i in
    let b = pow-suc w i in
    let less : i ≤ w = omega arith in
    let cube = mul-le-mul_left (i * i) less in
    let next : (6 * w * w * w + 6 * i * w * w + 3 * i * i * w + 2 * i * i * i) * (w + 1) ≤ w * (6 * w * w * w + 6 * suc i * w * w + 3 * suc i * suc i * w + 2 * suc i * suc i * suc i) = omega arith in
    let x = mul-le-mul_right (w + 1) before in
    let y = mul-le-mul_left (w ^ i) next in
    rw (a, b) (omega arith)

-- at least 1 + x + x (x - 1/w) / 2
power_least : (w i : ℕ) → w ^ i * (2 * w * w + 2 * i * w + i * i) ≤ (w + 1) ^ i * (2 * w * w) + w ^ i * i
power_least w zero =
    let a = pow-zero (w + 1) in
    let b = pow-zero w in
    rw (a, b) (omega arith)
power_least w (suc i) =
    let before = power_least w i in
    let a = pow-suc (w + 1) i in
    let b = pow-suc w i in
    let x = mul-le-mul_right (w + 1) before in
    let cube : i ≤ i * i = squares i in
    let y = mul-le-mul_left (w ^ i) cube in
    rw (a, b) (omega arith)
  where
    squares : (i : ℕ) → i ≤ i * i
    squares zero = omega arith
    squares (suc i) = omega arith

-- ---- the exponent of 1 + u/w

-- i is u (1 - u / 2 w), rounded down, or one less
pub rest_below : (w u q i : ℕ) → 0 < w → u ≤ w → u * u ≤ (q + 1) * (2 * w) → i + (q + 1) ≤ u → (w + 1) ^ i * w ≤ w ^ i * (w + u)
rest_below w u q i o small square difference =
    let most = power_most w i (omega arith) in
    let p = q + 1 in
    let lengths : 2 * i * i * i + 3 * i * i * w ≤ 3 * u * u * w = cubes w u p i square difference in
    let x = mul-le-mul_left (3 * w) square in
    let y : (i + p) * w * w * 6 ≤ u * w * w * 6 = omega (arith, mul-le-mul_right (w * w) difference) in
    let sums : 6 * w * w * w + 6 * i * w * w + 3 * i * i * w + 2 * i * i * i ≤ 6 * w * w * (w + u) = omega arith in
    let z = mul-le-mul_left (w ^ i) sums in
    let t : (w + 1) ^ i * w * (6 * w * w) ≤ w ^ i * (w + u) * (6 * w * w) = omega arith in
    le_of_mul-le-mul_right t (omega (arith, mul-le 1 1 w w o o))
  where
    cubes : (w u p i : ℕ) → u * u ≤ p * (2 * w) → i + p ≤ u → 2 * i * i * i + 3 * i * i * w ≤ 3 * u * u * w
    cubes w u p i s d =
        let a : i ≤ u = omega arith in
        let squares = mul-le i i u u a a in
        let cubed = mul-le (i * i) i (u * u) i squares (omega arith) in
        let both = mul-le (i + p) (i + p) u u d d in
        let more = mul-le-mul_right (3 * w) both in
        let scaled = mul-le-mul_left (3 * i) s in
        omega arith

quotient_most : (w u q : ℕ) → 0 < w → u ≤ w → q * (2 * w) ≤ u * u → q ≤ u
quotient_most w u q o s h =
    let a = mul-le-mul_left u s in
    let t : q * w ≤ u * w = omega arith in
    le_of_mul-le-mul_right t o

-- i is 2 more than u (1 - u / 2 w), rounded up
pub rest_above : (w u q i : ℕ) → 0 < w → u ≤ w → q * (2 * w) ≤ u * u → u * u * u ≤ 4 * w * w → i + q ≡ u + 2 → (w + u) * w ^ i ≤ (w + 1) ^ i * w
rest_above w u q i o small square cube sum =
    let least = power_least w i in
    let few : q ≤ u = quotient_most w u q o small square in
    let scaled = mul-le-mul_left u square in
    let cubed : 2 * u * q * w ≤ 4 * w * w = omega arith in
    let both : 2 * u * q ≤ 4 * w = le_of_mul-le-mul_right cubed o in
    let sums : 2 * u * w + i ≤ 2 * i * w + i * i = terms w u q i square few both sum in
    let z = mul-le-mul_left (w ^ i) sums in
    let t : (w + u) * w ^ i * (2 * w) ≤ (w + 1) ^ i * w * (2 * w) = omega arith in
    le_of_mul-le-mul_right t (omega arith)
  where
    with_rest : (w d q : ℕ) {u i : ℕ} → q * (2 * w) ≤ (d + q) * (d + q) → 2 * (d + q) * q ≤ 4 * w → u ≡ d + q → i ≡ d + 2 → 2 * u * w + i ≤ 2 * i * w + i * i
    with_rest w d q s b f g = rw (f, g) (omega arith)

    terms : (w u q i : ℕ) → q * (2 * w) ≤ u * u → q ≤ u → 2 * u * q ≤ 4 * w → i + q ≡ u + 2 → 2 * u * w + i ≤ 2 * i * w + i * i
    terms w u q i s f b e =
        let d = u - q in
        let u_is : u ≡ d + q = omega arith in
        let i_is : i ≡ d + 2 = omega arith in
        with_rest w d q (subst (λ (n : ℕ). q * (2 * w) ≤ n * n) u_is s) (subst (λ (n : ℕ). 2 * n * q ≤ 4 * w) u_is b) u_is i_is

-- ---- the logarithm of 1 + u/w

-- the logarithm of 1 + 1/w lies between c / b and (c + 2) / b
pub record IsUnit (h w b c : ℕ) : Type 0 where
  pub below : 2 ^ c * w ^ (2 ^ h * b) ≤ (w + 1) ^ (2 ^ h * b)
  pub above : (w + 1) ^ (2 ^ h * b) ≤ 2 ^ (c + 2) * w ^ (2 ^ h * b)

-- the power of a power, with the exponents exchanged
exchanged : (x i n b : ℕ) → (x ^ (n * b)) ^ i ≡ ((x ^ i) ^ n) ^ b
exchanged x i n b =
    let p = pow_times x (n * b) i in
    let q = pow_times x i n in
    let r = pow_times x (i * n) b in
    let e : n * b * i ≡ i * n * b = omega arith in
    p ∙ ap (λ (k : ℕ). x ^ k) e ∙ sym r ∙ ap (λ (k : ℕ). k ^ b) (sym q)

pub unit_below : (h w b c i t : ℕ) → 0 < b → t * b ≤ i * c → IsUnit h w b c → 2 ^ t * (w ^ i) ^ 2 ^ h ≤ ((w + 1) ^ i) ^ 2 ^ h
unit_below h w b c i t o f u =
    let N = 2 ^ h in
    let p = pow-le-pow_left u.below i in
    let a = mul-pow (2 ^ c) (w ^ (N * b)) i in
    let e = pow_times 2 c i in
    let x = exchanged w i N b in
    let y = exchanged (w + 1) i N b in
    let q : 2 ^ (t * b) ≤ 2 ^ (c * i) = pow-le-pow_right {n = 2} (omega arith) (omega arith) in
    let m = mul-le-mul_right (((w ^ i) ^ N) ^ b) q in
    let r = mul-pow (2 ^ t) ((w ^ i) ^ N) b in
    let s = pow_times 2 t b in
    let all : 2 ^ (c * i) * ((w ^ i) ^ N) ^ b ≤ (((w + 1) ^ i) ^ N) ^ b = rw (sym e, sym x, sym y, sym a) p in
    let t_all : (2 ^ t * (w ^ i) ^ N) ^ b ≤ (((w + 1) ^ i) ^ N) ^ b = rw (r, s) (omega arith) in
    root_le (2 ^ t * (w ^ i) ^ N) (((w + 1) ^ i) ^ N) b o t_all

pub unit_above : (h w b c i t : ℕ) → 0 < b → (c + 2) * i ≤ t * b → IsUnit h w b c → ((w + 1) ^ i) ^ 2 ^ h ≤ 2 ^ t * (w ^ i) ^ 2 ^ h
unit_above h w b c i t o f u =
    let N = 2 ^ h in
    let p = pow-le-pow_left u.above i in
    let a = mul-pow (2 ^ (c + 2)) (w ^ (N * b)) i in
    let e = pow_times 2 (c + 2) i in
    let x = exchanged w i N b in
    let y = exchanged (w + 1) i N b in
    let q : 2 ^ ((c + 2) * i) ≤ 2 ^ (t * b) = pow-le-pow_right {n = 2} (omega arith) f in
    let m = mul-le-mul_right (((w ^ i) ^ N) ^ b) q in
    let r = mul-pow (2 ^ t) ((w ^ i) ^ N) b in
    let s = pow_times 2 t b in
    let all : (((w + 1) ^ i) ^ N) ^ b ≤ 2 ^ ((c + 2) * i) * ((w ^ i) ^ N) ^ b = rw (sym e, sym x, sym y, sym a) p in
    let t_all : (((w + 1) ^ i) ^ N) ^ b ≤ (2 ^ t * (w ^ i) ^ N) ^ b = rw (r, s) (omega arith) in
    root_le (((w + 1) ^ i) ^ N) (2 ^ t * (w ^ i) ^ N) b o t_all

pub joined_below : (w u i n p : ℕ) → 0 < w → (w + 1) ^ i * w ≤ w ^ i * (w + u) → p * (w ^ i) ^ n ≤ ((w + 1) ^ i) ^ n → p * w ^ n ≤ (w + u) ^ n
joined_below w u i n p o f g =
    let x = pow-le-pow_left f n in
    let a = mul-pow ((w + 1) ^ i) w n in
    let e = mul-pow (w ^ i) (w + u) n in
    let y : ((w + 1) ^ i) ^ n * w ^ n ≤ (w ^ i) ^ n * (w + u) ^ n = rw (sym a, sym e) x in
    let m = mul-le-mul_right (w ^ n) g in
    let s : p * w ^ n * (w ^ i) ^ n ≤ (w + u) ^ n * (w ^ i) ^ n = omega arith in
    le_of_mul-le-mul_right s (power_some (w ^ i) n (power_some w i o))

pub joined_above : (w u i n p : ℕ) → 0 < w → (w + u) * w ^ i ≤ (w + 1) ^ i * w → ((w + 1) ^ i) ^ n ≤ p * (w ^ i) ^ n → (w + u) ^ n ≤ p * w ^ n
joined_above w u i n p o f g =
    let x = pow-le-pow_left f n in
    let a = mul-pow ((w + 1) ^ i) w n in
    let e = mul-pow (w + u) (w ^ i) n in
    let y : (w + u) ^ n * (w ^ i) ^ n ≤ ((w + 1) ^ i) ^ n * w ^ n = rw (sym a, sym e) x in
    let m = mul-le-mul_right (w ^ n) g in
    let s : (w + u) ^ n * (w ^ i) ^ n ≤ p * w ^ n * (w ^ i) ^ n = omega arith in
    le_of_mul-le-mul_right s (power_some (w ^ i) n (power_some w i o))

-- i is the exponent of rest_below, and that of rest_above is at most 3 more
pub rest_over : (h w u q i b c t : ℕ) → 0 < w → 0 < b → 4 * u ≤ b → 12 ≤ b → c ≤ b → u ≤ w → q * (2 * w) ≤ u * u → u * u ≤ (q + 1) * (2 * w) → u * u * u ≤ 4 * w * w
    → i ≡ u - (q + 1) → t * b ≤ i * c → i * c < (t + 1) * b → IsUnit h w b c → IsOver h 5 (w + u) w t
rest_over h w u q i b c t o z few four less small low high cube difference t_low t_high unit =
    let N = 2 ^ h in
    let few_q : q ≤ u = quotient_most w u q o small low in
    let j = u + 2 - q in
    let sum : j + q ≡ u + 2 = omega arith in
    let near : j ≤ i + 3 = omega arith in
    let above = rest_above w u q j o small low cube sum in
    let i_few : i ≤ u = omega arith in
    let last = more b c i j t few i_few near less four t_high in
    let up = unit_above h w b c j (t + 5) z last unit in
    let down = unit_below h w b c i t z t_low unit in
    let below = start w u q i o small high difference in
    record {
      below = joined_below w u i N (2 ^ t) o below down;
      above = joined_above w u j N (2 ^ (t + 5)) o above up;
    }
  where
    more : (b c i j t : ℕ) → 4 * u ≤ b → i ≤ u → j ≤ i + 3 → c ≤ b → 12 ≤ b → i * c < (t + 1) * b → (c + 2) * j ≤ (t + 5) * b
    more b c i j t few f n l four h =
        let x = mul-le-mul_left (c + 2) n in
        omega arith

    start : (w u q i : ℕ) → 0 < w → u ≤ w → u * u ≤ (q + 1) * (2 * w) → i ≡ u - (q + 1) → (w + 1) ^ i * w ≤ w ^ i * (w + u)
    start w u q zero o s l d =
        let a = pow-zero (w + 1) in
        let e = pow-zero w in
        rw (a, e) (omega arith)
    start w u q (suc i) o s l d = rest_below w u q (suc i) o s l (omega arith)
