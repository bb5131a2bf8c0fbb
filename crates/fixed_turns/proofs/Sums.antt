-- The series at an angle, and the numbers that are rounded.
use Rattle.std.proofs.Common.{◌≡◌, ◌+◌, ◌-◌, ◌*◌, ◌/◌, ◌^◌, ◌<◌, ◌≤◌, ℕ, zero, suc, Bool, true, false, refl, subst, sym, ap, ◌∙◌, arith}
use Rattle.std.specs.Prelude.{nat_le, if◌then◌else◌}
use Rattle.std.proofs.lemmas.Nat.{mul-le, pow-add, pow_pos}
use Rattle.std.proofs.Math.Nat.{le_of_mul-le-mul_right, mul-le-mul_right, mul-le-mul_left}
use Rattle.fixed_turns.specs.Series.{Fraction, cosine_series, lessened, nested, over, sine_series, squared}
use Rattle.fixed_turns.specs.Sines.{IsNear, IsSumAt, radians, sine_room}
use Rattle.fixed_turns.specs.inside.Rests.{IsClose, IsLessened, IsNestedTo, IsRounded, IsUnder, factorial, quotients, reach, slack}
use Rattle.fixed_turns.proofs.Factorials.{quotient_high, quotient_low}
use Rattle.fixed_turns.proofs.Nesting.{lessened_close, nested_part, square_close, square_part, square_some}
use Rattle.fixed_turns.proofs.Reach.{room}

-- ---- how far off
far : (b : Bool) → ((if b then 6 else 9) ≤ 9) × ((slack 5 2 (if b then 6 else 9) (if b then 6 else 9) + 2 ≤ (if b then 2 ^ 23 else 2 ^ 3)) × (slack 5 1 (if b then 6 else 9) (if b then 6 else 9) ≤ (if b then 2 ^ 23 else 2 ^ 3)))
unfolding slack factorial
far true = (omega arith, (omega arith, omega arith))
far false = (omega arith, (omega arith, omega arith))

by_bits : (n : ℕ) → (quotients n ≤ 9) × ((slack 5 2 (quotients n) (quotients n) + 2 ≤ reach n) × (slack 5 1 (quotients n) (quotients n) ≤ reach n))
by_bits n = far (nat_le n 32)

far_narrow : (slack (2 ^ 19 + 1) 2 6 6 + 2 ^ 18 + 1 ≤ 2 ^ 23) × (slack (2 ^ 19 + 1) 1 6 6 + 1 ≤ 2 ^ 23)
unfolding slack factorial
far_narrow = (omega arith, omega arith)

-- ---- the square
pub square_small : (q t : ℕ) → q ≤ 0xca00000000000000 → t * 2 ^ 64 ≤ q * q → 8 * (t + 2 ^ 19 + 1) ≤ 5 * 2 ^ 64
square_small q t l h =
    let a = mul-le q q 0xca00000000000000 0xca00000000000000 l l in
    omega arith

under_close : (x : Fraction) (q : ℕ) → IsUnder 2 q x → IsClose 2 q x
under_close x q u =
    let below = u.below in
    record { below = omega arith; above = u.above }

-- the numbers that divide all quotients
no_divisor : (first : ℕ) → 1 ≤ first → first ≤ 2 → factorial (first - 1) ≡ 1
unfolding factorial
no_divisor zero least most = absurd (omega arith)
no_divisor (suc zero) least most = refl
no_divisor (suc (suc zero)) least most = refl
no_divisor (suc (suc (suc n))) least most = absurd (omega arith)

close_at : (e square first count w n : ℕ) (y : Fraction) → 1 ≤ first → first ≤ 2 → count ≤ 9 → 0 < y.den → IsClose e square y → IsNestedTo e square first count count w → IsClose (slack e first count count) w (nested y first (n + 10))
close_at o square first count w n y least most few some u h =
    let e : first + 2 * (count - count) ≡ first = omega arith in
    let d : n + (10 - count) + count ≡ n + 10 = omega arith in
    let z = nested y first (n + 10) in
    let a = subst (λ (j : ℕ). IsClose (slack o first count count) w (over (nested y j (n + (10 - count) + count)) (factorial (j - 1)))) e (h y (n + (10 - count)) some u) in
    let b = subst (λ (j : ℕ). IsClose (slack o first count count) w (over (nested y first j) (factorial (first - 1)))) d a in
    let c = subst (λ (j : ℕ). IsClose (slack o first count count) w (over z j)) (no_divisor first least most) b in
    let below : w * (z.den * 1) ≤ z.num * 2 ^ 64 + slack o first count count * (z.den * 1) = c.below in
    let above : z.num * 2 ^ 64 ≤ (w + slack o first count count) * (z.den * 1) = c.above in
    record { below = omega arith; above = omega arith }

-- the sine of x, which is from q - b to q + e, by a square that is off by o
sine_by : (x : Fraction) (q t w s count n b e o k : ℕ) → 0 < x.den → q ≤ 2 ^ 64 → 8 * (t + o) ≤ 5 * 2 ^ 64 → count ≤ 9 → q * x.den ≤ x.num * 2 ^ 64 + b * x.den → x.num * 2 ^ 64 ≤ (q + e) * x.den
    → IsClose o t (squared x) → IsNestedTo o t 2 count count w → IsLessened q w s → slack o 2 count count + 1 + b ≤ k → slack o 2 count count + e ≤ k → IsClose k s (sine_series x (n + 10))
sine_by x q t w s count n b e o k some few small nine low high v h less below above =
    let c = slack o 2 count count in
    let y = squared x in
    let there = square_some x some in
    let part = nested_part y 2 (n + 10) there (square_part o y t small v) (omega arith) in
    let close = close_at o t 2 count w n y (omega arith) (omega arith) nine there v h in
    let d : q * c ≤ 2 ^ 64 * c = mul-le-mul_right c few in
    let f : (1 + b + c) * 2 ^ 64 ≤ k * 2 ^ 64 = mul-le-mul_right {m = 1 + b + c} {n = k} (2 ^ 64) (omega arith) in
    let g : (e + c) * 2 ^ 64 ≤ k * 2 ^ 64 = mul-le-mul_right {m = e + c} {n = k} (2 ^ 64) (omega arith) in
    lessened_close x (nested y 2 (n + 10)) q w s b c e k low high part.1 close less (omega arith) (omega arith)

pub sine_close : (x : Fraction) (q t w s bits n : ℕ) → IsUnder 2 q x → q ≤ 0xc910000000000000 → t * 2 ^ 64 ≤ q * q → q * q < (t + 1) * 2 ^ 64
    → ((e : ℕ) → 8 * (t + e) ≤ 5 * 2 ^ 64 → IsNestedTo e t 2 (quotients bits) (quotients bits) w) → IsLessened q w s → IsClose (reach bits) s (sine_series x (n + 10))
sine_close x q t w s bits n u l low high h less =
    let b = by_bits bits in
    let few = square_small q t (omega arith) low in
    let small : 8 * (t + 5) ≤ 5 * 2 ^ 64 = omega arith in
    let under = u.below in
    let v = square_close x q t 2 5 (under_close x q u) low high (omega arith) in
    sine_by x q t w s (quotients bits) n 0 2 5 (reach bits) u.some (omega arith) small b.0 (omega arith) u.above v (h 5 small) less (omega (arith, b.1.0)) (omega (arith, b.1.0))

pub narrow_sine_close : (x : Fraction) (q t w s n : ℕ) → 0 < x.den → IsClose (2 ^ 18) q x → q ≤ 0xca00000000000000 → t * 2 ^ 64 ≤ q * q → q * q < (t + 1) * 2 ^ 64
    → ((e : ℕ) → 8 * (t + e) ≤ 5 * 2 ^ 64 → IsNestedTo e t 2 6 6 w) → IsLessened q w s → IsClose (2 ^ 23) s (sine_series x (n + 10))
narrow_sine_close x q t w s n some u l low high h less =
    let f = far_narrow in
    let few = square_small q t l low in
    let small : 8 * (t + (2 ^ 19 + 1)) ≤ 5 * 2 ^ 64 = omega arith in
    let v = square_close x q t (2 ^ 18) (2 ^ 19 + 1) u low high (omega arith) in
    sine_by x q t w s 6 n (2 ^ 18) (2 ^ 18) (2 ^ 19 + 1) (2 ^ 23) some (omega arith) small (omega arith) u.below u.above v (h (2 ^ 19 + 1) small) less (omega (arith, f.0)) (omega (arith, f.0))

-- w is close to z, so that 1 - w is close to 1 - z; v may be a unit less
rest_close : (z : Fraction) (w v c k : ℕ) → z.num ≤ z.den → v + w ≤ 2 ^ 64 → 2 ^ 64 ≤ v + w + (k - c) → c ≤ k → IsClose c w z → IsClose k v (lessened (record { num = 1; den = 1 }) z)
rest_close z w v c k part less least far close =
    let below = close.below in
    let above = close.above in
    let most = mul-le-mul_right z.den less in
    let i : 2 ^ 64 + c ≤ v + w + k = omega arith in
    let whole = mul-le-mul_right z.den i in
    let more = mul-le-mul_right z.den far in
    let all : z.den - z.num + z.num ≡ z.den = omega arith in
    let first : v * (1 * z.den) ≤ 1 * (z.den - z.num) * 2 ^ 64 + k * (1 * z.den) = omega arith in
    let second : 1 * (z.den - z.num) * 2 ^ 64 ≤ (v + k) * (1 * z.den) = omega arith in
    record { below = first; above = second }

-- the cosine of x by a square that is off by o
cosine_by : (x : Fraction) (t w v count n o k : ℕ) → 0 < x.den → 8 * (t + o) ≤ 5 * 2 ^ 64 → count ≤ 9 → IsClose o t (squared x) → v + w ≤ 2 ^ 64 → 2 ^ 64 ≤ v + w + (k - slack o 1 count count)
    → IsNestedTo o t 1 count count w → slack o 1 count count ≤ k → IsClose k v (cosine_series x (n + 10))
cosine_by x t w v count n o k some small nine u less least h far =
    let y = squared x in
    let there = square_some x some in
    let part = nested_part y 1 (n + 10) there (square_part o y t small u) (omega arith) in
    let close = close_at o t 1 count w n y (omega arith) (omega arith) nine there u h in
    rest_close (nested y 1 (n + 10)) w v (slack o 1 count count) k part.1 less least far close

pub cosine_close : (x : Fraction) (q t w bits n : ℕ) → IsUnder 2 q x → q ≤ 0xc910000000000000 → t * 2 ^ 64 ≤ q * q → q * q < (t + 1) * 2 ^ 64 → w < 2 ^ 64
    → ((e : ℕ) → 8 * (t + e) ≤ 5 * 2 ^ 64 → IsNestedTo e t 1 (quotients bits) (quotients bits) w) → IsClose (reach bits) (2 ^ 64 - w) (cosine_series x (n + 10))
cosine_close x q t w bits n u l low high less h =
    let b = by_bits bits in
    let few = square_small q t (omega arith) low in
    let small : 8 * (t + 5) ≤ 5 * 2 ^ 64 = omega arith in
    let v = square_close x q t 2 5 (under_close x q u) low high (omega arith) in
    cosine_by x t w (2 ^ 64 - w) (quotients bits) n 5 (reach bits) u.some small b.0 v (omega arith) (omega arith) (h 5 small) b.1.1

-- s is 2^64 - 1, lessened by w: at most a unit less than the cosine
pub narrow_cosine_close : (x : Fraction) (q t w s n : ℕ) → 0 < x.den → IsClose (2 ^ 18) q x → q ≤ 0xca00000000000000 → t * 2 ^ 64 ≤ q * q → q * q < (t + 1) * 2 ^ 64
    → ((e : ℕ) → 8 * (t + e) ≤ 5 * 2 ^ 64 → IsNestedTo e t 1 6 6 w) → w < 2 ^ 64 → IsLessened (2 ^ 64 - 1) w s → IsClose (2 ^ 23) s (cosine_series x (n + 10))
narrow_cosine_close x q t w s n some u l low high h word less =
    let f = far_narrow in
    let few = square_small q t l low in
    let small : 8 * (t + (2 ^ 19 + 1)) ≤ 5 * 2 ^ 64 = omega arith in
    let v = square_close x q t (2 ^ 18) (2 ^ 19 + 1) u low high (omega arith) in
    let above = less.above in
    let below = less.below in
    cosine_by x t w s 6 n (2 ^ 19 + 1) (2 ^ 23) some small (omega arith) v (omega arith) (omega (arith, f.1)) (h (2 ^ 19 + 1) small) (omega (arith, f.1))

-- ---- radians: c and c + 1 enclose a quarter in units of 1 / h, of which there are two in 1 / u
radians_low : (r g k x p c d h : ℕ) → 0 < h → r * (2 * h) ≤ x * k * c → c * d ≤ p * h → r * (2 * d * g) ≤ p * x * (k * g)
radians_low r g k x p c d h o l m =
    let a = mul-le-mul_right (d * g) l in
    let b : x * k * g * (c * d) ≤ x * k * g * (p * h) = mul-le-mul_left (x * k * g) m in
    let e : r * (2 * d * g) * h ≤ p * x * (k * g) * h = omega arith in
    le_of_mul-le-mul_right e o

radians_high : (r g k x p c d h : ℕ) → 0 < h → x * k * c ≤ (r + 1) * (2 * h) → x * k ≤ 2 * h → p * h ≤ (c + 1) * d → p * x * (k * g) ≤ (r + 2) * (2 * d * g)
radians_high r g k x p c d h o l s m =
    let a = mul-le-mul_right (d * g) l in
    let f = mul-le-mul_right (d * g) s in
    let b : x * k * g * (p * h) ≤ x * k * g * ((c + 1) * d) = mul-le-mul_left (x * k * g) m in
    let e : p * x * (k * g) * h ≤ (r + 2) * (2 * d * g) * h = omega arith in
    le_of_mul-le-mul_right e o

pub radians_under : (f p k x rest r : ℕ) → k * 2 ^ f ≡ 2 ^ 64 → 0xc90fdaa22168c234 * 10 ^ 39 ≤ p * 2 ^ 62 → p * 2 ^ 62 ≤ 0xc90fdaa22168c235 * 10 ^ 39 → rest ≡ x * k → rest ≤ 2 ^ 63
    → r * 2 ^ 63 ≤ rest * 0xc90fdaa22168c234 → rest * 0xc90fdaa22168c234 < (r + 1) * 2 ^ 63 → IsUnder 2 r (radians p x f)
radians_under f p k x rest r u low high is small below above =
    let o : 0 < 2 ^ 62 = omega arith in
    let l : r * (2 * 2 ^ 62) ≤ x * k * 0xc90fdaa22168c234 = subst (λ (j : ℕ). r * (2 * 2 ^ 62) ≤ j * 0xc90fdaa22168c234) is (omega arith) in
    let m : x * k * 0xc90fdaa22168c234 ≤ (r + 1) * (2 * 2 ^ 62) = subst (λ (j : ℕ). j * 0xc90fdaa22168c234 ≤ (r + 1) * (2 * 2 ^ 62)) is (omega arith) in
    let s : x * k ≤ 2 * 2 ^ 62 = omega arith in
    let g = pow_pos f in
    let d : 0 < 10 ^ 39 = omega arith in
    record {
      some = omega arith;
      below = subst (λ (j : ℕ). r * (2 * 10 ^ 39 * 2 ^ f) ≤ p * x * j) u (radians_low r (2 ^ f) k x p 0xc90fdaa22168c234 (10 ^ 39) (2 ^ 62) o l low);
      above = subst (λ (j : ℕ). p * x * j ≤ (r + 2) * (2 * 10 ^ 39 * 2 ^ f)) u (radians_high r (2 ^ f) k x p 0xc90fdaa22168c234 (10 ^ 39) (2 ^ 62) o m s high);
    }

-- ---- rounded: p is 2^(64 - f), g is 2^f, k is 2^k, and v is y in units of 1 / u, off by e
near_low : (r v n d p g k e u : ℕ) → 0 < p → p * g ≡ u → e * k ≡ u → 2 * (r * p) ≤ 2 * v + p → v * d ≤ n * u + e * d → r * (2 * k) * d ≤ g * (2 * k) * n + (k + 2 * g) * d
near_low r v n d p g k e u o s t l c =
    let a = mul-le-mul_right (d * k) l in
    let b = mul-le-mul_right (2 * k) c in
    let x = ap (λ (j : ℕ). j * (2 * k * n)) s in
    let y = ap (λ (j : ℕ). j * (2 * d)) s in
    let z = ap (λ (j : ℕ). j * (2 * d)) t in
    let f : r * (2 * k) * d * p ≤ (g * (2 * k) * n + (k + 2 * g) * d) * p = omega arith in
    le_of_mul-le-mul_right f o

near_high : (r v n d p g k e u : ℕ) → 0 < p → p * g ≡ u → e * k ≡ u → 2 * v ≤ 2 * (r * p) + p → n * u ≤ (v + e) * d → g * (2 * k) * n ≤ r * (2 * k) * d + (k + 2 * g) * d
near_high r v n d p g k e u o s t l c =
    let a = mul-le-mul_right (d * k) l in
    let b = mul-le-mul_right (2 * k) c in
    let x = ap (λ (j : ℕ). j * (2 * k * n)) s in
    let y = ap (λ (j : ℕ). j * (2 * d)) s in
    let z = ap (λ (j : ℕ). j * (2 * d)) t in
    let f : g * (2 * k) * n * p ≤ (r * (2 * k) * d + (k + 2 * g) * d) * p = omega arith in
    le_of_mul-le-mul_right f o

pub powers : (f : ℕ) → f ≤ 64 → 2 ^ (64 - f) * 2 ^ f ≡ 2 ^ 64
powers f l =
    let e : 64 - f + f ≡ 64 = omega arith in
    sym (pow-add 2 (64 - f) f) ∙ ap (λ (j : ℕ). 2 ^ j) e

twice : (k : ℕ) → 2 ^ (k + 1) ≡ 2 * 2 ^ k
twice k = pow-add 2 k 1 ∙ omega arith

near_by : (k e : ℕ) → e * 2 ^ k ≡ 2 ^ 64 → (y : Fraction) (f v r : ℕ) → f ≤ 64 → IsClose e v y → IsRounded v (64 - f) r → IsNear k y f r
near_by k e is y f v r l close round =
    let p = powers f l in
    let a = twice k in
    let b = twice f in
    let o = pow_pos (64 - f) in
    record {
      below = rw (a, b) (near_low r v y.num y.den (2 ^ (64 - f)) (2 ^ f) (2 ^ k) e (2 ^ 64) o p is round.below close.below);
      above = rw (a, b) (near_high r v y.num y.den (2 ^ (64 - f)) (2 ^ f) (2 ^ k) e (2 ^ 64) o p is round.above close.above);
    }

half_rounded : (v d r : ℕ) → 0 < d → v / d + 1 < (r + 1) * 2 → r * 2 ≤ v / d + 1 → (2 * (r * (2 * d)) ≤ 2 * v + 2 * d) × (2 * v ≤ 2 * (r * (2 * d)) + 2 * d)
half_rounded v d r o high low =
    let a = quotient_low v d in
    let b = quotient_high v d o in
    let c : r * 2 * d ≤ (v / d + 1) * d = mul-le-mul_right d low in
    let e : (v / d + 1) * d ≤ (r * 2 + 1) * d = mul-le-mul_right d (omega arith) in
    (omega arith, omega arith)

pub rounded_half : (v s : ℕ) → 0 < s → IsRounded v s ((v / 2 ^ (s - 1) + 1) / 2)
rounded_half v s o =
    let d = 2 ^ (s - 1) in
    let e : s ≡ s - 1 + 1 = omega arith in
    let is : 2 ^ s ≡ 2 * d = ap (λ (j : ℕ). 2 ^ j) e ∙ twice (s - 1) in
    let r = (v / d + 1) / 2 in
    let h = half_rounded v d r (pow_pos (s - 1)) (quotient_high (v / d + 1) 2 (omega arith)) (quotient_low (v / d + 1) 2) in
    record { below = rw is h.0; above = rw is h.1 }

-- ---- from 0 to 1
pub rounded_most : (f v r : ℕ) → f ≤ 64 → v ≤ 2 ^ 64 → IsRounded v (64 - f) r → r ≤ 2 ^ f
rounded_most f v r l m round =
    let p = powers f l in
    let b = round.below in
    let a : 2 * r * 2 ^ (64 - f) ≤ (2 * 2 ^ f + 1) * 2 ^ (64 - f) = omega arith in
    let d = le_of_mul-le-mul_right a (pow_pos (64 - f)) in
    omega arith

pub zero_rounded : (v s r : ℕ) → v ≡ 0 → IsRounded v s r → r ≡ 0
zero_rounded v s r e round =
    let b = round.below in
    let a : 2 * r * 2 ^ s ≤ 1 * 2 ^ s = omega arith in
    let d = le_of_mul-le-mul_right a (pow_pos s) in
    omega arith

pub one_rounded : (f v r : ℕ) → f ≤ 64 → v ≡ 2 ^ 64 → IsRounded v (64 - f) r → r ≡ 2 ^ f
one_rounded f v r l e round =
    let p = powers f l in
    let b = round.above in
    let m = rounded_most f v r l (omega arith) round in
    let a : 2 * 2 ^ f * 2 ^ (64 - f) ≤ (2 * r + 1) * 2 ^ (64 - f) = omega arith in
    let d = le_of_mul-le-mul_right a (pow_pos (64 - f)) in
    omega arith

pub sum_at : (series : Fraction → ℕ → Fraction) (bits f e r v : ℕ) (y : Fraction) → f ≤ 64 → ((n : ℕ) → IsClose (reach bits) v (series y (n + 10))) → v ≤ 2 ^ 64 → IsRounded v (64 - f) r → (y.num ≡ 0 → r ≡ e)
    → IsSumAt series (sine_room bits) y f e r
sum_at series bits f e r v y l close few round exact =
    let s = room bits in
    record {
      near = λ n. near_by (sine_room bits) (reach bits) s.1.0 (series y (n + 10)) f v r l (close n) round;
      most = rounded_most f v r l few round;
      exact = exact;
    }

pub no_units : (x : ℕ) (y : Fraction) → IsUnder 2 x y → y.num ≡ 0 → x ≡ 0
no_units x y u none =
    let a : x * y.den ≤ 0 * 2 ^ 64 = subst (λ (j : ℕ). x * y.den ≤ j * 2 ^ 64) none u.below in
    let d = le_of_mul-le-mul_right {m = x} {n = 0} (omega arith) u.some in
    omega arith

pub radians_of_under : (f p k x rest r : ℕ) → k * 2 ^ f ≡ 2 ^ 64 → 0xc90fdaa22168c234 * 10 ^ 39 ≤ p * 2 ^ 62 → p * 2 ^ 62 ≤ 0xc90fdaa22168c235 * 10 ^ 39 → rest ≡ x * k → rest ≤ 2 ^ 63
    → r ≡ rest * 0xc90fdaa22168c234 / 2 ^ 63 → IsUnder 2 r (radians p x f)
radians_of_under f p k x rest r u low high is small e =
    let n = rest * 0xc90fdaa22168c234 in
    rw e (radians_under f p k x rest (n / 2 ^ 63) u low high is small (quotient_low n (2 ^ 63)) (quotient_high n (2 ^ 63) (omega arith)))

pub nothing_squared : (x t : ℕ) → x ≡ 0 → t * 2 ^ 64 ≤ x * x → t ≡ 0
nothing_squared x t none h =
    let a : t * 2 ^ 64 ≤ 0 * 0 = subst (λ (j : ℕ). t * 2 ^ 64 ≤ j * j) none h in
    omega arith
