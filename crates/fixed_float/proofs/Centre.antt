-- The sum with a float in which the last bit counts 1: it rounds to a whole number.
use Rattle.std.proofs.Common.{◌≡◌, ◌+◌, ◌-◌, ◌*◌, ◌/◌, ◌%◌, ◌^◌, ◌<◌, ◌≤◌, ℕ, suc, Bool, true, false, ◌&&◌, ◌||◌, ltb, T, not, refl, ap, sym, ◌∙◌, subst, arith, inl, inr, true≢false, if◌then◌else◌}
use lib.Dec.{eqb}
use borrow.Author.Tests.{eq-eqb, ne_eqb}
use native.Mathlib.Nat.{eq_of_mul-eq-mul_right, add-mul, lt_of_mul-lt-mul_right, le_of_mul-le-mul_right, lt_of_lt_of_le, lt_of_le_of_lt, mul_assoc, mul_comm, mul_left_comm, mul-div_cancel, mul-le-mul_right, mul-lt-mul_of_pos_right, mul-mul-mul_comm, mul-pos}
use Rattle.std.proofs.lemmas.Bool.{cases_lt, le-ltb, lt-ltb}
use Rattle.std.proofs.lemmas.Nat.{div-add-mod', mod_below}
use lib.Arith.{digits_div, digits_mod}
use lib.Pow.{pow-add, pow_mono, pow_pos}
use Rattle.std.specs.Float.{Float, Format, nan, inf, fin, float_is_finite, float_with_sign}
use lib.Ieee.{add, down, emax, eq, hid, is_nan, le, low, lt, neg, prec, round, size, sum, to_bits, units, up}
use lib.Ieee.Exact.{HasValue, units_val}
use lib.Ieee.Fits.{down_pos, round_is}
use lib.Ieee.Nearest.{closest, closest_same}
use Rattle.fixed_float.proofs.Formats.{bits_of_value, closest_eq, closest_gt, closest_lt, digits_in}
use Rattle.fixed_float.proofs.Packing.{size_is}
use Rattle.fixed_float.proofs.Sums.{left_over, minus_times, right_over, same_minus, same_order, total}

-- ---- comparisons
or_le : (a b : ℕ) (r : Bool) → (ltb a b || (eqb a b && r)) ≡ true → a ≤ b
or_le a b r h = elim (cases_lt b a) [
  | inl l ↦
      let e : ltb a b ≡ false = le-ltb a b (omega arith) in
      let q : eqb a b ≡ false = ne_eqb a b (omega arith) in
      absurd (true≢false (sym h ∙ (λ i. e i || (q i && r))))
  | inr g ↦ g
]

cross : (p a c e q b d k : ℕ) → 0 < e → 0 < k → p * c ≡ a * e → q * d ≡ b * k → p * k ≤ q * e → a * d ≤ b * c
cross p a c e q b d k E K h g l =
    let x : p * k * (c * d) ≡ a * d * (e * k) = mul-mul-mul_comm p k c d ∙ ap (λ (z : ℕ). z * (k * d)) h ∙ simp (mul_assoc, mul_comm, mul_left_comm) in
    let y : q * e * (c * d) ≡ b * c * (e * k) = ap (λ (z : ℕ). q * e * z) (mul_comm c d) ∙ mul-mul-mul_comm q e d c ∙ ap (λ (z : ℕ). z * (e * c)) g ∙ simp (mul_assoc, mul_comm, mul_left_comm) in
    let m : p * k * (c * d) ≤ q * e * (c * d) = mul-le-mul_right (c * d) l in
    le_of_mul-le-mul_right (subst (λ (z : ℕ). z ≤ b * c * (e * k)) x (subst (λ (z : ℕ). p * k * (c * d) ≤ z) y m)) (mul-pos E K)

pub size_under : (x y : Float) (a c b d : ℕ) → HasValue x false a c → HasValue y false b d → le x y ≡ true → a * d ≤ b * c
unfolding le lt eq
size_under nan y a c b d v w h = absurd v
size_under (inf s) y a c b d v w h = absurd v
size_under (fin s m e) nan a c b d v w h = absurd w
size_under (fin s m e) (inf t) a c b d v w h = absurd w
size_under (fin true m e) (fin t n k) a c b d v w h = absurd (true≢false v.0)
size_under (fin false m e) (fin true n k) a c b d v w h = absurd (true≢false w.0)
size_under (fin false m e) (fin false n k) a c b d v w h =
    cross (m * up e) a c (down e) (n * up k) b d (down k) (down_pos e) (down_pos k) v.1 w.1 (or_le (m * up e * down k) (n * up k * down e) _ h)

pub abs_value : (x : Float) (s : Bool) (a c : ℕ) → HasValue x s a c → HasValue (float_with_sign false x) false a c
unfolding float_with_sign
abs_value nan s a c v = absurd v
abs_value (inf t) s a c v = absurd v
abs_value (fin t m e) s a c v = (refl, v.1)

pub finite_under : (x y : Float) (b d : ℕ) → HasValue y false b d → le (float_with_sign false x) y ≡ true → float_is_finite x ≡ true
unfolding le lt eq float_with_sign float_is_finite
finite_under x nan b d w h = absurd w
finite_under x (inf t) b d w h = absurd w
finite_under nan (fin t n k) b d w h = absurd (true≢false (sym h))
finite_under (inf s) (fin t n k) b d w h = absurd (true≢false (sym h))
finite_under (fin s m e) (fin t n k) b d w h = refl

-- ---- the size as the larger of a float and its negation

at_none : (a b : ℕ) → a ≡ 0 → (ltb a b || (eqb a b && true)) ≡ true
at_none a b e = elim (cases_lt a b) [
  | inl l ↦ rw (lt-ltb a b l) refl
  | inr g ↦ let q : a ≡ b = omega arith in rw (le-ltb a b g, eq-eqb a b q) refl
]

none_above : (a : ℕ) → ltb 0 a ≡ false → a ≡ 0
none_above a e = elim (cases_lt 0 a) [
  | inl l ↦ absurd (true≢false (sym (lt-ltb 0 a l) ∙ e))
  | inr g ↦ omega arith
]

pub size_by_larger : (x y : Float) (b d : ℕ) → HasValue y false b d → le (if lt x (neg x) then neg x else x) y ≡ true → le (float_with_sign false x) y ≡ true
unfolding le lt eq neg float_with_sign
size_by_larger x nan b d w h = absurd w
size_by_larger x (inf t) b d w h = absurd w
size_by_larger x (fin true n k) b d w h = absurd (true≢false w.0)
size_by_larger nan (fin false n k) b d w h = absurd (true≢false (sym h))
size_by_larger (inf false) (fin false n k) b d w h = absurd (true≢false (sym h))
size_by_larger (inf true) (fin false n k) b d w h = absurd (true≢false (sym h))
size_by_larger (fin false m e) (fin false n k) b d w h = h
size_by_larger (fin true m e) (fin false n k) b d w h = go (ltb 0 (m * up e * down e + m * up e * down e)) refl h
  where
    go : (c : Bool) → ltb 0 (m * up e * down e + m * up e * down e) ≡ c → le (if c then fin false m e else fin true m e) (fin false n k) ≡ true → le (fin false m e) (fin false n k) ≡ true
    go true e i = i
    go false q i =
        let z : m * up e * down e ≡ 0 * down e = omega (arith, none_above (m * up e * down e + m * up e * down e) q) in
        let y : m * up e ≡ 0 = eq_of_mul-eq-mul_right (down e) (down_pos e) (m * up e) 0 z in
        let x : m * up e * down k ≡ 0 = ap (λ (v : ℕ). v * down k) y ∙ omega arith in
        at_none (m * up e * down k) (n * up k * down e) x

-- ---- the sum of ±n and b, over one divisor
pub moved : (f : Format) (x y : Float) (s : Bool) (n b l : ℕ) → HasValue x s n (2 ^ l) → HasValue y false b (2 ^ l) → n < b
    → add f x y ≡ round f false (if s then b - n else n + b) (2 ^ l)
unfolding add sum
moved f nan y s n b l v w h = absurd v
moved f (inf t) y s n b l v w h = absurd v
moved f (fin t m e) nan s n b l v w h = absurd w
moved f (fin t m e) (inf r) s n b l v w h = absurd w
moved f (fin t m e) (fin true q k) s n b l v w h = absurd (true≢false w.0)
moved f (fin true m e) (fin false q k) false n b l v w h = absurd (true≢false v.0)
moved f (fin false m e) (fin false q k) true n b l v w h = absurd (true≢false (sym v.0))
moved f (fin false m e) (fin false q k) false n b l v w h =
    total f false (m * up e * down k) (q * up k * down e) (down e * down k) n b l (mul-pos (down_pos e) (down_pos k))
    (left_over (m * up e) (down e) n (2 ^ l) (down k) v.1) (right_over (q * up k) (down k) b (2 ^ l) (down e) w.1)
moved f (fin true m e) (fin false q k) true n b l v w h =
    let A = m * up e * down k in
    let B = q * up k * down e in
    let D = down e * down k in
    let P : 0 < D = mul-pos (down_pos e) (down_pos k) in
    let i : A * 2 ^ l ≡ n * D = left_over (m * up e) (down e) n (2 ^ l) (down k) v.1 in
    let j : B * 2 ^ l ≡ b * D = right_over (q * up k) (down k) b (2 ^ l) (down e) w.1 in
    rw (lt-ltb A B (same_order A B D n b (2 ^ l) P (pow_pos l) i j h))
    (lib.Ieee.Scale.round_same f false (B - A) D (b - n) (2 ^ l) P (pow_pos l) (same_minus B A D b n (2 ^ l) j i))

-- ---- the nearest whole number, past an even one
at_lt : (q r u : ℕ) → r < u → 2 * r < u → closest (q * u + r) u ≡ q
at_lt q r u R h = let m : (q * u + r) % u ≡ r = digits_mod q R in closest_lt (q * u + r) u (omega arith) ∙ digits_div q R

at_eq : (q r u : ℕ) → r < u → 2 * r ≡ u → closest (q * u + r) u ≡ q + q % 2
at_eq q r u R h = let m : (q * u + r) % u ≡ r = digits_mod q R in closest_eq (q * u + r) u (omega arith) ∙ ap (λ (z : ℕ). z + z % 2) (digits_div q R)

at_gt : (q r u : ℕ) → r < u → u < 2 * r → closest (q * u + r) u ≡ suc q
at_gt q r u R h = let m : (q * u + r) % u ≡ r = digits_mod q R in closest_gt (q * u + r) u (omega arith) ∙ ap (λ (z : ℕ). suc z) (digits_div q R)

module _ (m n u : ℕ) (M : m % 2 ≡ 0) (U : 0 < u) where
  abbrev q : ℕ
  q = n / u

  abbrev r : ℕ
  r = n % u

  below : r < u
  below = mod_below n u U

  is : q * u + r ≡ n
  is = div-add-mod' n u

  pub closest_plus : closest (n + m * u) u ≡ m + closest n u
  closest_plus =
      let e : n + m * u ≡ (m + q) * u + r = omega (arith, add-mul m q u, is) in
      ap (λ (z : ℕ). closest z u) e ∙ elim (cases_lt (2 * r) u) [
        | inl l ↦ at_lt (m + q) r u below l ∙ ap (λ (z : ℕ). m + z) (sym (closest_lt n u l))
        | inr g ↦ elim (cases_lt u (2 * r)) [
          | inl l ↦ at_gt (m + q) r u below l ∙ omega arith ∙ ap (λ (z : ℕ). m + z) (sym (closest_gt n u l))
          | inr k ↦
              let t : 2 * r ≡ u = omega arith in
              at_eq (m + q) r u below t ∙ omega (arith, M) ∙ ap (λ (z : ℕ). m + z) (sym (closest_eq n u t))
        ]
      ]

  module _ (L : n < m * u) where
    less : q < m
    less = lt_of_mul-lt-mul_right u (lt_of_le_of_lt (omega (arith, is)) L)

    whole : r ≡ 0 → closest (m * u - n) u ≡ m - closest n u
    whole z =
        let e : m * u - n ≡ (m - q) * u + 0 = omega (arith, minus_times m q u, is, z) in
        let h : 2 * r < u = omega (arith, z) in
        ap (λ (z : ℕ). closest z u) e ∙ at_lt (m - q) 0 u U (omega (arith, U)) ∙ ap (λ (z : ℕ). m - z) (sym (closest_lt n u h))

    part : 0 < r → closest (m * u - n) u ≡ m - closest n u
    part some =
        let w = m - suc q in
        let W : w + suc q ≡ m = omega (arith, less) in
        let x : m * u ≡ w * u + suc q * u = ap (λ (z : ℕ). z * u) (sym W) ∙ add-mul w (suc q) u in
        let e : m * u - n ≡ w * u + (u - r) = omega (arith, x, is, below) in
        let R : u - r < u = omega (arith, some, below) in
        ap (λ (z : ℕ). closest z u) e ∙ elim (cases_lt (2 * r) u) [
          | inl l ↦ at_gt w (u - r) u R (omega (arith, below)) ∙ omega (arith, W) ∙ ap (λ (z : ℕ). m - z) (sym (closest_lt n u l))
          | inr g ↦ elim (cases_lt u (2 * r)) [
            | inl l ↦ at_lt w (u - r) u R (omega (arith, below)) ∙ omega (arith, W) ∙ ap (λ (z : ℕ). m - z) (sym (closest_gt n u l))
            | inr k ↦
                let t : 2 * r ≡ u = omega arith in
                at_eq w (u - r) u R (omega (arith, below)) ∙ omega (arith, M, W) ∙ ap (λ (z : ℕ). m - z) (sym (closest_eq n u t))
          ]
        ]

    pub closest_minus : closest (m * u - n) u ≡ m - closest n u
    closest_minus = elim (cases_lt 0 r) [
      | inl l ↦ part l
      | inr g ↦ whole (omega arith)
    ]

-- ---- a number whose last bit counts 2 ^ l of the least floats
pub is_number : (x : Float) (s : Bool) (a c : ℕ) → HasValue x s a c → T (not (is_nan x))
unfolding is_nan
is_number nan s a c v = absurd v
is_number (inf t) s a c v = absurd v
is_number (fin t m e) s a c v = tt

module _ (f : Format) (l : ℕ) (least : low f ≤ l) (most : prec f + l ≤ low f + suc (emax f)) (r : ℕ) (lo : hid f * 2 ^ l ≤ r) (hi : r < 2 ^ prec f * 2 ^ l) (qlo : hid f ≤ closest r (2 ^ l)) (qhi : closest r (2 ^ l) < 2 ^ prec f) where
  abbrev near : ℕ
  near = closest r (2 ^ l)

  sized : (n : ℕ) → hid f * 2 ^ l ≤ n → n < 2 ^ prec f * 2 ^ l → size n - prec f ≡ l
  sized n a b =
      let j = prec f - 1 + l in
      let top : suc j ≡ prec f + l = omega (arith, digits_in f) in
      let is : size n ≡ suc j =
      size_is n j (subst (λ (z : ℕ). z ≤ n) (sym (pow-add 2 (prec f - 1) l)) a) (subst (λ (z : ℕ). n < z) (sym (pow-add 2 (prec f) l) ∙ ap (λ (z : ℕ). 2 ^ z) (sym top)) b) in
      ap (λ (z : ℕ). z - prec f) is ∙ omega (arith, digits_in f)

  rounds : round f false r (2 ^ low f) ≡ units f false near l
  rounds =
      let L = pow_pos (low f) in
      let k : size (r * 2 ^ low f / 2 ^ low f) - prec f ≡ l = ap (λ (z : ℕ). size z - prec f) (mul-div_cancel r L) ∙ sized r lo hi in
      round_is f false r (2 ^ low f)
      ∙ ap (λ (z : ℕ). units f false (closest (r * 2 ^ low f) (2 ^ low f * 2 ^ z)) z) k
      ∙ ap (λ (z : ℕ). units f false z l) (closest_same (r * 2 ^ low f) (2 ^ low f * 2 ^ l) r (2 ^ l) (mul-pos L (pow_pos l)) (pow_pos l) (mul_assoc r (2 ^ low f) (2 ^ l)))

  fine : near * 2 ^ l < 2 ^ (low f + suc (emax f))
  fine = lt_of_lt_of_le (mul-lt-mul_of_pos_right qhi (pow_pos l)) (subst (λ (z : ℕ). z ≤ 2 ^ (low f + suc (emax f))) (pow-add 2 (prec f) l) (pow_mono {i = prec f + l} {j = low f + suc (emax f)} most))

  pub value_at : HasValue (round f false r (2 ^ low f)) false (closest r (2 ^ l) * 2 ^ l) (2 ^ low f)
  value_at = subst (λ (y : Float). HasValue y false (near * 2 ^ l) (2 ^ low f)) (sym rounds) (units_val f false near l fine)

  pub bits_at : to_bits f (round f false r (2 ^ low f)) ≡ l * hid f + closest r (2 ^ l)
  bits_at =
      let n = sized (near * 2 ^ l) (mul-le-mul_right (2 ^ l) qlo) (mul-lt-mul_of_pos_right qhi (pow_pos l)) in
      bits_of_value f (round f false r (2 ^ low f)) false (near * 2 ^ l) value_at
      ∙ ap (λ (z : ℕ). 0 + z * hid f + near * 2 ^ l / 2 ^ z) n
      ∙ ap (λ (z : ℕ). 0 + l * hid f + z) (mul-div_cancel near (pow_pos l))
      ∙ omega arith
