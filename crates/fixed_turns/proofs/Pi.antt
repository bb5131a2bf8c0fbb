-- The series of the sine at half a turn, by the decimals of pi.
use lib.Ieee.Fits.{and_l, and_r}
use Rattle.std.proofs.Common.{◌≡◌, ◌+◌, ◌-◌, ◌*◌, ◌/◌, ◌^◌, ◌<◌, ◌≤◌, ℕ, zero, suc, Bool, ◌&&◌, T, leb, leb→le, subst, ap, ◌∙◌, arith}
use Rattle.std.proofs.lemmas.Nat.{div-add-mod', mod_below, mul-le}
use Rattle.std.proofs.Math.Nat.{le_of_mul-le-mul_right, lt_of_mul-lt-mul_right, mul-le-mul_right, mul-le-mul_left}
use Rattle.fixed_turns.specs.Series.{Fraction, nested, sine_series}
use Rattle.fixed_turns.specs.Sines.{pi, radians}

-- ---- nested quotients of a / b, in units of 1 / u: the i first ones, and how far they are from all
unfoldable est : ℕ → ℕ → ℕ → ℕ → ℕ → ℕ
est u a b m zero = 0
est u a b m (suc i) = a * (u - est u a b (m + 2) i) / (b * (m * (m + 1)))

unfoldable far : ℕ → ℕ → ℕ → ℕ → ℕ → ℕ
far u a b m zero = u
far u a b m (suc i) = a * far u a b (m + 2) i / (b * (m * (m + 1))) + 2

record IsAt (u c w : ℕ) (z : Fraction) : Type 0 where
  some : 0 < z.den
  part : z.num ≤ z.den
  below : w * z.den ≤ z.num * u + c * z.den
  above : z.num * u ≤ (w + c) * z.den

quotient : (x v : ℕ) → 0 < v → (x / v * v ≤ x) × (x < (x / v + 1) * v)
quotient x v o =
    let d = div-add-mod' x v in
    let m = mod_below x v o in
    (omega arith, omega arith)

-- one quotient more, where v is the rest of w up to u, and r that of z
one_below : (u a e w v zn zd r c s k : ℕ) → v + w ≡ u → r + zn ≡ zd → zn * u ≤ (w + c) * zd → s * e ≤ a * v → a * c ≤ k * e
    → s * (e * zd) ≤ a * r * u + k * (e * zd)
one_below u a e w v zn zd r c s k vw rz above low small =
    let x1 = mul-le-mul_right zd low in
    let x2 : (v + w) * zd ≡ u * zd = ap (λ (j : ℕ). j * zd) vw in
    let x3 : (r + zn) * u ≡ zd * u = ap (λ (j : ℕ). j * u) rz in
    let x4 : v * zd ≤ r * u + c * zd = omega arith in
    let x5 = mul-le-mul_left a x4 in
    let x6 = mul-le-mul_right zd small in
    omega arith

one_above : (u a e w v zn zd r c s k : ℕ) → v + w ≡ u → r + zn ≡ zd → w * zd ≤ zn * u + c * zd → a * v ≤ (s + 1) * e → a * c ≤ k * e
    → a * r * u ≤ (s + (k + 1)) * (e * zd)
one_above u a e w v zn zd r c s k vw rz below high small =
    let x1 = mul-le-mul_right zd high in
    let x2 : (v + w) * zd ≡ u * zd = ap (λ (j : ℕ). j * zd) vw in
    let x3 : (r + zn) * u ≡ zd * u = ap (λ (j : ℕ). j * u) rz in
    let x4 : r * u ≤ v * zd + c * zd = omega arith in
    let x5 = mul-le-mul_left a x4 in
    let x6 = mul-le-mul_right zd small in
    omega arith

one_part : (a e zn zd r : ℕ) → r + zn ≡ zd → 0 < zd → a ≤ e → 0 < e → (0 < e * zd) × (a * r ≤ e * zd)
one_part a e zn zd r rz some part o = (mul-le 1 1 e zd o some, mul-le a r e zd part (omega arith))

rest_of : (x y : ℕ) → x ≤ y → y - x + x ≡ y
rest_of x y h = omega arith

one_more : (u a b m w c n : ℕ) → 0 < b → 4 ≤ m → a ≤ b * 20 → w ≤ u → IsAt u c w (nested (record { num = a; den = b }) (m + 2) n)
    → IsAt u (a * c / (b * (m * (m + 1))) + 2) (a * (u - w) / (b * (m * (m + 1)))) (nested (record { num = a; den = b }) m (suc n))
unfolding nested
one_more u a b m w c n o four small wu h =
    let z = nested (record { num = a; den = b }) (m + 2) n in
    let e = b * (m * (m + 1)) in
    let room : 20 ≤ m * (m + 1) = mul-le 4 5 m (m + 1) four (omega arith) in
    let b20 = mul-le-mul_left b room in
    let part : a ≤ e = omega arith in
    let eo : 0 < e = omega arith in
    let s = quotient (a * (u - w)) e eo in
    let k = quotient (a * c) e eo in
    let rz = rest_of z.num z.den h.part in
    let all = one_part a e z.num z.den (z.den - z.num) rz h.some part eo in
    let k1 : a * c ≤ (a * c / e + 1) * e = omega (arith, k.1) in
    let s1 : a * (u - w) ≤ (a * (u - w) / e + 1) * e = omega (arith, s.1) in
    let low = one_below u a e w (u - w) z.num z.den (z.den - z.num) c (a * (u - w) / e) (a * c / e + 1) (rest_of w u wu) rz h.above s.0 k1 in
    let high = one_above u a e w (u - w) z.num z.den (z.den - z.num) c (a * (u - w) / e) (a * c / e + 1) (rest_of w u wu) rz h.below s1 k1 in
    record { some = all.0; part = all.1; below = omega (arith, low); above = omega (arith, high) }

est_le : (u a b m i : ℕ) → 0 < b → 4 ≤ m → a ≤ b * 20 → est u a b m i ≤ u
unfolding est
est_le u a b m zero o four small = omega arith
est_le u a b m (suc i) o four small =
    let e = b * (m * (m + 1)) in
    let room : 20 ≤ m * (m + 1) = mul-le 4 5 m (m + 1) four (omega arith) in
    let b20 = mul-le-mul_left b room in
    let part : a ≤ e = omega arith in
    let eo : 0 < e = omega arith in
    let w = est u a b (m + 2) i in
    let q = quotient (a * (u - w)) e eo in
    let x1 = mul-le a (u - w) e u part (omega arith) in
    let x2 : (a * (u - w) / e) * e ≤ u * e = omega (arith, q.0) in
    le_of_mul-le-mul_right x2 eo

nested_some : (a b m n : ℕ) → 0 < b → 4 ≤ m → a ≤ b * 20 → (0 < (nested (record { num = a; den = b }) m n).den) × ((nested (record { num = a; den = b }) m n).num ≤ (nested (record { num = a; den = b }) m n).den)
unfolding nested
nested_some a b m zero o four small = (omega arith, omega arith)
nested_some a b m (suc n) o four small =
    let z = nested (record { num = a; den = b }) (m + 2) n in
    let h = nested_some a b (m + 2) n o (omega arith) small in
    let e = b * (m * (m + 1)) in
    let room : 20 ≤ m * (m + 1) = mul-le 4 5 m (m + 1) four (omega arith) in
    let b20 = mul-le-mul_left b room in
    let part : a ≤ e = omega arith in
    one_part a e z.num z.den (z.den - z.num) (rest_of z.num z.den h.1) h.0 part (omega arith)

all_at : (u a b m n i : ℕ) → 0 < b → 4 ≤ m → a ≤ b * 20 → IsAt u (far u a b m i) (est u a b m i) (nested (record { num = a; den = b }) m (n + i))
unfolding est far
all_at u a b m n zero o four small =
    let h = nested_some a b m (n + 0) o four small in
    let part = mul-le-mul_right u h.1 in
    record { some = h.0; part = h.1; below = omega arith; above = omega (arith, part) }
all_at u a b m n (suc i) o four small =
    let next = one_more u a b m (est u a b (m + 2) i) (far u a b (m + 2) i) (n + i) o four small (est_le u a b (m + 2) i o (omega arith) small) (all_at u a b (m + 2) n i o (omega arith) small) in
    let is : suc (n + i) ≡ n + suc i = omega arith in
    subst (λ (j : ℕ). IsAt u (far u a b m (suc i)) (est u a b m (suc i)) (nested (record { num = a; den = b }) m j)) is next

-- ---- the first quotient, which is 1 at pi itself
first_below : (u a b w c zn zd r : ℕ) → r + zn ≡ zd → 0 < zd → w * zd ≤ zn * u + c * zd → a * (u + c) + 1 ≤ b * 6 * u + a * w → a * r < b * 6 * zd
first_below u a b w c zn zd r rz some below small =
    let x1 : (r + zn) * u ≡ zd * u = ap (λ (j : ℕ). j * u) rz in
    let x2 : r * u + w * zd ≤ (u + c) * zd = omega arith in
    let x3 = mul-le-mul_left a x2 in
    let x4 = mul-le-mul_right zd small in
    let x5 : a * r * u < b * 6 * zd * u = omega arith in
    lt_of_mul-lt-mul_right u x5

first_above : (u a b w c zn zd r : ℕ) → 0 < u → r + zn ≡ zd → zn * u ≤ (w + c) * zd → b * 6 * u + a * (w + c) ≤ a * u → b * 6 * zd ≤ a * r
first_above u a b w c zn zd r o rz above large =
    let x1 : (r + zn) * u ≡ zd * u = ap (λ (j : ℕ). j * u) rz in
    let x2 : u * zd ≤ r * u + (w + c) * zd = omega arith in
    let x3 = mul-le-mul_left a x2 in
    let x4 = mul-le-mul_right zd large in
    let x5 : b * 6 * zd * u ≤ a * r * u = omega arith in
    le_of_mul-le-mul_right x5 o

-- ---- the sums of more than 24 terms
both_le : (i j k l : ℕ) → T (leb i j && leb k l) → (i ≤ j) × (k ≤ l)
both_le i j k l t = (leb→le i j (and_l (leb i j) (leb k l) t), leb→le k l (and_r (leb i j) (leb k l) t))

unit : ℕ
unit = 10 ^ 50

unit_some : 0 < unit
unfolding unit
unit_some = omega arith

-- the first two quotients of x / d, nested with the others, are less than 1
abbrev is_below : ℕ → ℕ → Bool
is_below a b = leb a (b * 20) && leb (a * (unit + far unit a b 4 24) + 1) (b * 6 * unit + a * est unit a b 4 24)

abbrev is_above : ℕ → ℕ → Bool
is_above a b = leb a (b * 20) && leb (b * 6 * unit + a * (est unit a b 4 24 + far unit a b 4 24)) (a * unit)

test_below : T (is_below ((pi * 2) * (pi * 2)) ((2 * 10 ^ 39 * 2 ^ 0) * (2 * 10 ^ 39 * 2 ^ 0)))
unfolding est far unit
test_below = tt

test_above : T (is_above (((pi + 1) * 2) * ((pi + 1) * 2)) ((2 * 10 ^ 39 * 2 ^ 0) * (2 * 10 ^ 39 * 2 ^ 0)))
unfolding est far unit
test_above = tt

sum_below : (x d n : ℕ) → 0 < x → 0 < d → T (is_below (x * x) (d * d)) → 0 < (sine_series (record { num = x; den = d }) (n + 25)).num
unfolding nested
sum_below x d n some o t =
    let a = x * x in
    let b = d * d in
    let h = both_le a (b * 20) (a * (unit + far unit a b 4 24) + 1) (b * 6 * unit + a * est unit a b 4 24) t in
    let bo = mul-le 1 1 d d o o in
    let at = all_at unit a b 4 n 24 bo (omega arith) h.0 in
    let z = nested (record { num = a; den = b }) 4 (n + 24) in
    let less = first_below unit a b (est unit a b 4 24) (far unit a b 4 24) z.num z.den (z.den - z.num) (rest_of z.num z.den at.part) at.some at.below h.1 in
    let is : suc (n + 24) ≡ n + 25 = omega arith in
    subst (λ (j : ℕ). 0 < (sine_series (record { num = x; den = d }) j).num) is (mul-le 1 1 x (b * 6 * z.den - a * (z.den - z.num)) some (omega (arith, less)))

sum_above : (x d n : ℕ) → 0 < d → T (is_above (x * x) (d * d)) → (sine_series (record { num = x; den = d }) (n + 25)).num ≡ 0
unfolding nested
sum_above x d n o t =
    let a = x * x in
    let b = d * d in
    let h = both_le a (b * 20) (b * 6 * unit + a * (est unit a b 4 24 + far unit a b 4 24)) (a * unit) t in
    let bo = mul-le 1 1 d d o o in
    let at = all_at unit a b 4 n 24 bo (omega arith) h.0 in
    let z = nested (record { num = a; den = b }) 4 (n + 24) in
    let more = first_above unit a b (est unit a b 4 24) (far unit a b 4 24) z.num z.den (z.den - z.num) unit_some (rest_of z.num z.den at.part) at.above h.1 in
    let is : suc (n + 24) ≡ n + 25 = omega arith in
    let none : b * 6 * z.den - a * (z.den - z.num) ≡ 0 = omega (arith, more) in
    let product : x * (b * 6 * z.den - a * (z.den - z.num)) ≡ x * 0 = ap (λ (j : ℕ). x * j) none in
    subst (λ (j : ℕ). (sine_series (record { num = x; den = d }) j).num ≡ 0) is (product ∙ omega arith)

pub sine_above_zero : (n : ℕ) → 0 < (sine_series (radians pi 2 0) (n + 25)).num
sine_above_zero n = sum_below (pi * 2) (2 * 10 ^ 39 * 2 ^ 0) n (omega arith) (omega arith) test_below

pub sine_not_above_zero : (n : ℕ) → (sine_series (radians (pi + 1) 2 0) (n + 25)).num ≡ 0
sine_not_above_zero n = sum_above ((pi + 1) * 2) (2 * 10 ^ 39 * 2 ^ 0) n (omega arith) test_above
