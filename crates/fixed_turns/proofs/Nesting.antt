-- Quotients, nested, over the numbers that divide them: each is close to its fraction, if the one in it is.
use Rattle.std.proofs.Common.{◌≡◌, ◌+◌, ◌-◌, ◌*◌, ◌/◌, ◌^◌, ◌<◌, ◌≤◌, ℕ, zero, suc, refl, subst, sym, ap, arith}
use Rattle.std.proofs.lemmas.Nat.{mul-le}
use Rattle.std.proofs.Math.Nat.{le_of_mul-le-mul_right, mul-le-mul_right, mul-le-mul_left}
use Rattle.fixed_turns.specs.Series.{Fraction, lessened, nested, over, squared}
use Rattle.fixed_turns.specs.inside.Rests.{IsClose, IsLessened, IsNestedTo, factorial, place, slack}
use Rattle.fixed_turns.proofs.Factorials.{factorial_some, factorial_two, quotient_high, quotient_low, smaller}

-- ---- x (1 - y), where x is a / g, q is x in units of 1 / u, up to b units more and e less, y is n / (m + n), and w is y in units of
-- 1 / u, off by c units at most
lessened_below : (a g q m n w s b c k u : ℕ) → 0 < u → q * g ≤ a * u + b * g → s * u + q * w ≤ q * u + u → n * u ≤ (w + c) * (m + n) → (1 + b) * u + q * c ≤ k * u
    → s * (g * (m + n)) ≤ a * m * u + k * (g * (m + n))
lessened_below a g q m n w s b c k u o x l y small =
    let a1 = mul-le-mul_right (m + n) l in
    let a2 : q * (n * u) ≤ q * ((w + c) * (m + n)) = mul-le-mul_left q y in
    let a3 = mul-le-mul_right (m + n) small in
    let e : (s + b) * (m + n) * u ≤ (q * m + k * (m + n)) * u = omega arith in
    let d = mul-le-mul_right g (le_of_mul-le-mul_right e o) in
    let f = mul-le-mul_right m x in
    omega arith

lessened_above : (a g q m n w s c e k u : ℕ) → 0 < u → a * u ≤ (q + e) * g → q * u ≤ s * u + q * w → w * (m + n) ≤ n * u + c * (m + n) → e * u + q * c ≤ k * u
    → a * m * u ≤ (s + k) * (g * (m + n))
lessened_above a g q m n w s c e k u o x l y small =
    let a1 = mul-le-mul_right (m + n) l in
    let a2 : q * (w * (m + n)) ≤ q * (n * u + c * (m + n)) = mul-le-mul_left q y in
    let a3 = mul-le-mul_right (m + n) small in
    let b : (q + e) * m * u ≤ (s + k) * (m + n) * u = omega arith in
    let d = mul-le-mul_right g (le_of_mul-le-mul_right b o) in
    let f = mul-le-mul_right m x in
    omega arith

-- the same, where d is m + n
lessened_to : (a g q m n d w s b c e k : ℕ) → m + n ≡ d → q * g ≤ a * 2 ^ 64 + b * g → a * 2 ^ 64 ≤ (q + e) * g → w * d ≤ n * 2 ^ 64 + c * d → n * 2 ^ 64 ≤ (w + c) * d
    → IsLessened q w s → (1 + b) * 2 ^ 64 + q * c ≤ k * 2 ^ 64 → e * 2 ^ 64 + q * c ≤ k * 2 ^ 64 → (s * (g * d) ≤ a * m * 2 ^ 64 + k * (g * d)) × (a * m * 2 ^ 64 ≤ (s + k) * (g * d))
lessened_to a g q m n d w s b c e k is low high below above l less more =
    subst (λ (j : ℕ). w * j ≤ n * 2 ^ 64 + c * j → n * 2 ^ 64 ≤ (w + c) * j → (s * (g * j) ≤ a * m * 2 ^ 64 + k * (g * j)) × (a * m * 2 ^ 64 ≤ (s + k) * (g * j))) is
    (λ y z. (lessened_below a g q m n w s b c k (2 ^ 64) (omega arith) low (omega (arith, l.above)) z less, lessened_above a g q m n w s c e k (2 ^ 64) (omega arith) high l.below y more))
    below above

pub lessened_close : (x y : Fraction) (q w s b c e k : ℕ) → q * x.den ≤ x.num * 2 ^ 64 + b * x.den → x.num * 2 ^ 64 ≤ (q + e) * x.den → y.num ≤ y.den → IsClose c w y → IsLessened q w s
    → (1 + b) * 2 ^ 64 + q * c ≤ k * 2 ^ 64 → e * 2 ^ 64 + q * c ≤ k * 2 ^ 64 → IsClose k s (lessened x y)
lessened_close x y q w s b c e k low high part close l less more =
    let is : y.den - y.num + y.num ≡ y.den = omega arith in
    let both = lessened_to x.num x.den q (y.den - y.num) y.num y.den w s b c e k is low high close.below close.above l less more in
    record { below = both.0; above = both.1 }

-- ---- fractions from 0 to 1
pub nested_part : (y : Fraction) (m n : ℕ) → 0 < y.den → y.num ≤ y.den → 1 ≤ m → (0 < (nested y m n).den) × ((nested y m n).num ≤ (nested y m n).den)
unfolding nested
nested_part y m zero some part one =
    let a : (nested y m zero).den ≡ 1 = refl in
    let b : (nested y m zero).num ≡ 0 = refl in
    (omega arith, omega arith)
nested_part y m (suc n) some part one =
    let rest = nested_part y (m + 2) n some part (omega arith) in
    let z = nested y (m + 2) n in
    let den : (nested y m (suc n)).den ≡ y.den * (m * (m + 1)) * z.den = refl in
    let num : (nested y m (suc n)).num ≡ y.num * (z.den - z.num) = refl in
    let d = mul-le 1 2 m (m + 1) one (omega arith) in
    let e = mul-le 1 1 (y.den * (m * (m + 1))) z.den (mul-le 1 1 y.den (m * (m + 1)) some (omega arith)) rest.0 in
    let f = mul-le y.num (z.den - z.num) y.den z.den part (omega arith) in
    let g : y.den * z.den * 1 ≤ y.den * z.den * (m * (m + 1)) = mul-le-mul_left (y.den * z.den) (omega arith) in
    (omega arith, omega arith)

-- ---- the square
-- a square of 5/8 at most is at most 1
pub square_part : (e : ℕ) (y : Fraction) (t : ℕ) → 8 * (t + e) ≤ 5 * 2 ^ 64 → IsClose e t y → y.num ≤ y.den
square_part e y t small u =
    let a : t + e ≤ 2 ^ 64 = omega arith in
    let b = mul-le-mul_right y.den a in
    let above = u.above in
    omega arith

pub square_close : (x : Fraction) (q t c e : ℕ) → IsClose c q x → t * 2 ^ 64 ≤ q * q → q * q < (t + 1) * 2 ^ 64 → c * (2 * q + c) + 2 ^ 64 ≤ e * 2 ^ 64 → IsClose e t (squared x)
square_close x q t c e u below above small =
    let a = x.num in
    let b = x.den in
    let o : 0 < 2 ^ 64 = omega arith in
    let ub = u.below in
    let ua = u.above in
    let all = mul-le-mul_right (b * b) small in
    let l = mul-le-mul_right (b * b) below in
    let low1 = mul-le-mul_left (q * b) ub in
    let low2 = mul-le-mul_right (a * 2 ^ 64) ub in
    let low3 = mul-le-mul_left (c * b) ua in
    let first : t * (b * b) * 2 ^ 64 ≤ (a * a * 2 ^ 64 + e * (b * b)) * 2 ^ 64 = omega arith in
    let high = mul-le (a * 2 ^ 64) (a * 2 ^ 64) ((q + c) * b) ((q + c) * b) ua ua in
    let m : q * q * (b * b) ≤ (t + 1) * 2 ^ 64 * (b * b) = mul-le-mul_right {m = q * q} {n = (t + 1) * 2 ^ 64} (b * b) (omega arith) in
    let second : a * a * 2 ^ 64 * 2 ^ 64 ≤ (t + e) * (b * b) * 2 ^ 64 = omega arith in
    record {
      below = le_of_mul-le-mul_right first o;
      above = le_of_mul-le-mul_right second o;
    }

pub square_some : (x : Fraction) → 0 < x.den → 0 < (squared x).den
square_some x some = mul-le 1 1 x.den x.den some some

-- ---- y (1 - z) / d, over p: e is the denominator of z, q is p d, c is 1 / q and w is z / q in units of 1 / u, g is c - w, and s is the
-- product of t and g
term_below : (a b v n e q g w c j d k s t u : ℕ) → 0 < u → v + n ≡ e → g + w ≡ c → t * b ≤ a * u + d * b → a * u ≤ (t + d) * b → n * u ≤ (w + j) * (e * q) → c * q ≤ u → s * u ≤ t * g → (t + d) * j + d * c ≤ k * u
    → s * (b * (e * q)) ≤ a * v * u + k * (b * (e * q))
term_below a b v n e q g w c j d k s t u o all sum low high near most product small =
    let whole = ap (λ (i : ℕ). i * u) all in
    let parts = ap (λ (i : ℕ). i * (e * q)) sum in
    let x1 = mul-le-mul_right e most in
    let x : g * (e * q) ≤ v * u + j * (e * q) = omega arith in
    let y1 = mul-le-mul_right (b * (e * q)) product in
    let y2 = mul-le-mul_right (g * (e * q)) low in
    let y3 : a * u * (g * (e * q)) ≤ a * u * (v * u + j * (e * q)) = mul-le-mul_left (a * u) x in
    let y4 : g * (d * b * (e * q)) ≤ c * (d * b * (e * q)) = mul-le-mul_right (d * b * (e * q)) (omega arith) in
    let z1 = mul-le-mul_right (j * (e * q)) high in
    let z2 = mul-le-mul_right (b * (e * q)) small in
    let far : s * (b * (e * q)) * u ≤ (a * v * u + k * (b * (e * q))) * u = omega arith in
    le_of_mul-le-mul_right far o

term_above : (a b v n e q g w c j d k s t u : ℕ) → 0 < u → v + n ≡ e → g + w ≡ c → a * u ≤ (t + d) * b → w * (e * q) ≤ n * u + j * (e * q) → u ≤ (c + 1) * q → t * g < (s + 1) * u
    → u + t * (1 + j) + d * (c + 1 + j) ≤ k * u → a * v * u ≤ (s + k) * (b * (e * q))
term_above a b v n e q g w c j d k s t u o all sum high near least product small =
    let whole = ap (λ (i : ℕ). i * u) all in
    let parts = ap (λ (i : ℕ). i * (e * q)) sum in
    let x1 = mul-le-mul_right e least in
    let x : v * u ≤ (g + 1 + j) * (e * q) = omega arith in
    let y1 = mul-le-mul_right (v * u) high in
    let y2 : (t + d) * b * (v * u) ≤ (t + d) * b * ((g + 1 + j) * (e * q)) = mul-le-mul_left ((t + d) * b) x in
    let y0 : d * (g + 1 + j) ≤ d * (c + 1 + j) = mul-le-mul_left {m = g + 1 + j} {n = c + 1 + j} d (omega arith) in
    let y3 : t * g + u + t * (1 + j) + d * (c + 1 + j) ≤ (s + 1 + k) * u = omega arith in
    let y4 : (t + d) * (g + 1 + j) ≤ (s + k) * u = omega arith in
    let y5 = mul-le-mul_right (b * (e * q)) y4 in
    let far : a * v * u * u ≤ (s + k) * (b * (e * q)) * u = omega arith in
    le_of_mul-le-mul_right far o

-- z is the series after a quotient by d, and p d is the number that divides it; the square is off by o units
term_close : (o : ℕ) (y z : Fraction) (d p q g w c j k s t : ℕ) → p * d ≡ q → z.num ≤ z.den → IsClose o t y → IsClose j w (over z q) → g + w ≡ c → c * q ≤ 2 ^ 64 → 2 ^ 64 ≤ (c + 1) * q
    → s * 2 ^ 64 ≤ t * g → t * g < (s + 1) * 2 ^ 64 → 2 ^ 64 + t * (1 + j) + o * (c + 1 + j) ≤ k * 2 ^ 64 → IsClose k s (over (lessened (over y d) z) p)
term_close o y z d p q g w c j k s t is part u close sum most least low high small =
    let a = y.num in
    let b = y.den in
    let e = z.den in
    let v = e - z.num in
    let all : v + z.num ≡ e = omega arith in
    let below = close.below in
    let above = close.above in
    let enough : (t + o) * j + o * c ≤ k * 2 ^ 64 = omega arith in
    let least_s = term_below a b v z.num e q g w c j o k s t (2 ^ 64) (omega arith) all sum u.below u.above above most low enough in
    let most_s = term_above a b v z.num e q g w c j o k s t (2 ^ 64) (omega arith) all sum u.above below least high small in
    let same = ap (λ (i : ℕ). b * e * i) is in
    let den : b * d * e * p ≡ b * (e * q) = omega (arith, same) in
    let first : s * (b * d * e * p) ≤ a * v * 2 ^ 64 + k * (b * d * e * p) = rw den least_s in
    let second : a * v * 2 ^ 64 ≤ (s + k) * (b * d * e * p) = rw den most_s in
    record { below = first; above = second }

-- ---- how far off: c is 1 / q in units of 1 / u
term_far : (e t j c q : ℕ) → 0 < q → 8 * (t + e) ≤ 5 * 2 ^ 64 → c * q ≤ 2 ^ 64 → 2 ^ 64 + t * (1 + j) + e * (c + 1 + j) ≤ (5 * j + 8 * e / q + 21) / 8 * 2 ^ 64
term_far e t j c q o small most =
    let i = 8 * e / q in
    let k = (5 * j + i + 21) / 8 in
    let a : 8 * e < (i + 1) * q = quotient_high (8 * e) q o in
    let b : 5 * j + i + 21 < (k + 1) * 8 = quotient_high (5 * j + i + 21) 8 (omega arith) in
    let a1 : 8 * e * 2 ^ 64 ≤ (i + 1) * q * 2 ^ 64 = mul-le-mul_right {m = 8 * e} {n = (i + 1) * q} (2 ^ 64) (omega arith) in
    let a2 = mul-le-mul_left (8 * e) most in
    let f : 8 * e * c * q ≤ (i + 1) * 2 ^ 64 * q = omega arith in
    let g : 8 * e * c ≤ (i + 1) * 2 ^ 64 = le_of_mul-le-mul_right f o in
    let h = mul-le-mul_right (1 + j) small in
    let l1 : 5 * j + i + 14 ≤ 8 * k = omega arith in
    let l : (5 * j + i + 14) * 2 ^ 64 ≤ 8 * k * 2 ^ 64 = mul-le-mul_right (2 ^ 64) l1 in
    let r : (2 ^ 64 + t * (1 + j) + e * (c + 1 + j)) * 8 ≤ k * 2 ^ 64 * 8 = omega arith in
    let eight : 0 < 8 = omega arith in
    le_of_mul-le-mul_right r eight

-- ---- all quotients
left_out : (e : ℕ) (y : Fraction) (t m n : ℕ) → 1 ≤ m → 8 * (t + e) ≤ 5 * 2 ^ 64 → IsClose e t y → y.num ≤ y.den → IsClose (1 + 5 * 2 ^ 64 / (8 * factorial (m + 1))) 0 (over (nested y m n) (factorial (m - 1)))
unfolding nested
left_out e y t m zero one small u part =
    let b : (nested y m zero).num ≡ 0 = refl in
    record { below = omega arith; above = omega arith }
left_out e y t m (suc n) one small u part =
    let z = nested y (m + 2) n in
    let d = m * (m + 1) in
    let p = factorial (m - 1) in
    let q = factorial (m + 1) in
    let j = 5 * 2 ^ 64 / (8 * q) in
    let is : p * d ≡ q = factorial_two m one in
    let o = factorial_some (m + 1) in
    let h = quotient_high (5 * 2 ^ 64) (8 * q) (omega arith) in
    let a : t + e ≤ (1 + j) * q = omega arith in
    let b = mul-le-mul_right y.den a in
    let above = u.above in
    let f = mul-le (y.num * 2 ^ 64) (z.den - z.num) ((1 + j) * q * y.den) z.den (omega arith) (omega arith) in
    let den : (nested y m (suc n)).den ≡ y.den * (m * (m + 1)) * z.den = refl in
    let num : (nested y m (suc n)).num ≡ y.num * (z.den - z.num) = refl in
    let same = ap (λ (i : ℕ). y.den * z.den * i) is in
    let all : y.den * d * z.den * p ≡ y.den * z.den * q = omega (arith, same) in
    let more : y.num * (z.den - z.num) * 2 ^ 64 ≤ (0 + (1 + j)) * (y.den * d * z.den * p) = rw all (omega arith) in
    record { below = omega arith; above = more }

pub nested_none : (e square first count : ℕ) → 1 ≤ first → 8 * (square + e) ≤ 5 * 2 ^ 64 → IsNestedTo e square first count 0 0
unfolding slack
nested_none e square first count one small = λ y n some u.
    let is : first + 2 * (count - 0) ≡ first + 2 * count = omega arith in
    let close = left_out e y square (first + 2 * count) (n + 0) (omega arith) small u (square_part e y square small u) in
    subst (λ (j : ℕ). IsClose (slack e first count 0) 0 (over (nested y j (n + 0)) (factorial (j - 1)))) (sym is) close

pub nested_step : (e : ℕ) (y : Fraction) (t m n j w s : ℕ) → 1 ≤ m → 8 * (t + e) ≤ 5 * 2 ^ 64 → 0 < y.den → IsClose e t y → y.num ≤ y.den → IsClose j w (over (nested y (m + 2) n) (factorial (m + 1)))
    → w ≤ (2 ^ 64 - 1) / factorial (m + 1) → s * 2 ^ 64 ≤ t * ((2 ^ 64 - 1) / factorial (m + 1) - w) → t * ((2 ^ 64 - 1) / factorial (m + 1) - w) < (s + 1) * 2 ^ 64
    → IsClose ((5 * j + 8 * e / factorial (m + 1) + 21) / 8) s (over (nested y m (suc n)) (factorial (m - 1)))
unfolding nested
nested_step e y t m n j w s one small some u part close fits low high =
    let d = m * (m + 1) in
    let q = factorial (m + 1) in
    let c = (2 ^ 64 - 1) / q in
    let o = factorial_some (m + 1) in
    let l = quotient_low (2 ^ 64 - 1) q in
    let h = quotient_high (2 ^ 64 - 1) q o in
    let most : c * q ≤ 2 ^ 64 = omega arith in
    let least : 2 ^ 64 ≤ (c + 1) * q = omega arith in
    let sum : c - w + w ≡ c = omega arith in
    let rest = nested_part y (m + 2) n some part (omega arith) in
    term_close e y (nested y (m + 2) n) d (factorial (m - 1)) q (c - w) w c j ((5 * j + 8 * e / q + 21) / 8) s t (factorial_two m one) rest.1 u close sum most least low high (term_far e t j c q o small most)

pub nested_turn : (e square first count i less s : ℕ) → 1 ≤ first → 8 * (square + e) ≤ 5 * 2 ^ 64 → i < count → IsNestedTo e square first count i less
    → less ≤ (2 ^ 64 - 1) / factorial (place first count i + 1) → s * 2 ^ 64 ≤ square * ((2 ^ 64 - 1) / factorial (place first count i + 1) - less)
    → square * ((2 ^ 64 - 1) / factorial (place first count i + 1) - less) < (s + 1) * 2 ^ 64 → IsNestedTo e square first count (i + 1) s
unfolding slack
nested_turn e square first count i less s one small more h fits low high = λ y n some u.
    let m = place first count i in
    let part = square_part e y square small u in
    let e1 : first + 2 * (count - i) ≡ m + 2 = omega arith in
    let e2 : first + 2 * (count - (i + 1)) ≡ m = omega arith in
    let e3 : n + (i + 1) ≡ suc (n + i) = omega arith in
    let e4 : i + 1 ≡ suc i = omega arith in
    let e5 : m + 2 - 1 ≡ m + 1 = omega arith in
    let close1 = subst (λ (j : ℕ). IsClose (slack e first count i) less (over (nested y j (n + i)) (factorial (j - 1)))) e1 (h y n some u) in
    let close = subst (λ (j : ℕ). IsClose (slack e first count i) less (over (nested y (m + 2) (n + i)) (factorial j))) e5 close1 in
    let next = nested_step e y square m (n + i) (slack e first count i) less s (omega arith) small some u part close fits low high in
    let a = subst (λ (j : ℕ). IsClose (slack e first count (suc i)) s (over (nested y m j) (factorial (m - 1)))) (sym e3) next in
    let b = subst (λ (j : ℕ). IsClose (slack e first count (suc i)) s (over (nested y j (n + (i + 1))) (factorial (j - 1)))) (sym e2) a in
    subst (λ (j : ℕ). IsClose (slack e first count j) s (over (nested y (first + 2 * (count - (i + 1))) (n + (i + 1))) (factorial (first + 2 * (count - (i + 1)) - 1)))) (sym e4) b

-- less does not exceed the reciprocal from which it is subtracted
pub fits_in : (first count i less c : ℕ) → 1 ≤ first → i < count → less ≤ (2 ^ 64 - 1) / factorial (first + 2 * (count - i) + 1) → c ≡ (2 ^ 64 - 1) / factorial (place first count i + 1) → less ≤ c
fits_in first count i less c one more h is =
    let m = place first count i in
    let e : first + 2 * (count - i) + 1 ≡ m + 3 = omega arith in
    rw is (smaller m less (subst (λ (j : ℕ). less ≤ (2 ^ 64 - 1) / factorial j) e h))

pub next_fits : (square first count i less s c : ℕ) → square + 5 ≤ 2 ^ 64 → i < count → s * 2 ^ 64 ≤ square * (c - less) → c ≡ (2 ^ 64 - 1) / factorial (place first count i + 1)
    → s ≤ (2 ^ 64 - 1) / factorial (first + 2 * (count - (i + 1)) + 1)
next_fits square first count i less s c small more low is =
    let e : place first count i + 1 ≡ first + 2 * (count - (i + 1)) + 1 = omega arith in
    let a : square * (c - less) ≤ 2 ^ 64 * (c - less) = mul-le-mul_right (c - less) (omega arith) in
    let b : s * 2 ^ 64 ≤ (c - less) * 2 ^ 64 = omega arith in
    let d = le_of_mul-le-mul_right b (omega arith) in
    let f : s ≤ c = omega arith in
    subst (λ (j : ℕ). s ≤ (2 ^ 64 - 1) / factorial j) e (subst (λ (j : ℕ). s ≤ j) is f)

pub nothing_left : (square g s : ℕ) → square ≡ 0 → s * 2 ^ 64 ≤ square * g → s ≡ 0
nothing_left square g s none low =
    let a : s * 2 ^ 64 ≤ 0 * g = subst (λ (j : ℕ). s * 2 ^ 64 ≤ j * g) none low in
    omega arith
