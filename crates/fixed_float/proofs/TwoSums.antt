-- A float of at most 2 ^ 64 units, rounded by two sums: one to units of 2 ^ 32, and one of the exact rest.
use Rattle.std.proofs.Common.{◌≡◌, ◌+◌, ◌-◌, ◌*◌, ◌%◌, ◌^◌, ◌<◌, ◌≤◌, ◌+ℤ◌, ◌-ℤ◌, ℕ, ℤ, suc, Bool, true, false, pos, negsuc, neg_ℤ, unsigned_abs, T, not, true≢false, refl, ap, sym, ◌∙◌, subst, arith, inl, inr, lit<, lit≤}
use Rattle.std.specs.Prelude.{Some}
use native.Mathlib.Nat.{add-mul, eq_of_mul-eq-mul_right, lt_of_le_of_lt, lt_of_lt_of_le, lt_of_mul-lt-mul_right, mul_assoc, mul-le-mul_right, mul-pos}
use Rattle.std.proofs.lemmas.Bool.{cases_lt}
use Rattle.std.proofs.lemmas.Int.{ints}
use lib.Pow.{pow-add, pow_mono, pow_pos, shl_lt}
use Rattle.std.specs.Float.{Float, binary64, nan, inf, fin, float_is_finite}
use lib.Ieee.{add, down, fits, is_nan, mul, neg, of_bits, round, sub, sum, to_bits, up}
use lib.Ieee.Exact.{HasValue, round_exact}
use lib.Ieee.Fits.{down_pos}
use lib.Ieee.Nearest.{closest}
use Rattle.fixed_word.specs.Format.{with_sign}
use Rattle.fixed_word.specs.declared.rounding.Rounding.TheVariants.{Even}
use Rattle.fixed_kernel.proofs.ToNearest.{nearest_is, IsNear}
use Rattle.fixed_convert.proofs.Factors.{rounded_magnitude}
use Rattle.fixed_float.specs.Rows.{units_of_float}
use Rattle.fixed_float.specs.inside.Small.{IsMedium}
use Rattle.fixed_float.proofs.Centre.{closest_minus, closest_plus, is_number, moved}
use Rattle.fixed_float.proofs.Fields.{packed_value}
use Rattle.fixed_float.proofs.Halves.{difference_is, over, sum_is, IsHeld}
use Rattle.fixed_float.proofs.Quick.{beside, beside_is, Beside, closest_small, low_enough, moved_from, n_is, power, scaled_value}
use Rattle.fixed_float.proofs.Roundings.{closest_nearest, closest_stepped}
use Rattle.fixed_float.proofs.Rows.{parts_exist, row_of_parts}
use Rattle.fixed_float.proofs.Sums.{left_over, minus_times, right_over, total}

-- ---- a multiple of few digits of a power of two, over 2 ^ 1074
pub record IsShort (c : ℕ) : Type 0 where
  pub digits : ℕ
  pub scale : ℕ
  pub is : c ≡ digits * 2 ^ scale
  pub few : digits < 2 ^ 53
  pub near : scale ≤ 1200

kept : (s : Bool) (c : ℕ) → IsShort c → HasValue (round binary64 s c (2 ^ 1074)) s c (2 ^ 1074)
kept s c h =
    let room : h.digits * 2 ^ h.scale < 2 ^ (1074 + suc 1023) = lt_of_lt_of_le (shl_lt 53 h.scale h.few) (pow_mono {i = 53 + h.scale} {j = 1074 + suc 1023} (omega (arith, h.near))) in
    round_exact binary64 s c (2 ^ 1074) h.digits h.scale (pow_pos 1074) h.few room (ap (λ (z : ℕ). z * 2 ^ 1074) h.is)

held_over : (z : ℤ) → IsShort (unsigned_abs z) → IsHeld (over binary64 z (2 ^ 1074)) z 1074
held_over (pos n) h = record { sign = false; size = n; value = kept false n h; number = refl }
held_over (negsuc n) h = record { sign = true; size = suc n; value = kept true (suc n) h; number = refl }

-- ---- exact sums
sum_apart : (x y : Float) (a b : ℕ) → HasValue x false a (2 ^ 1074) → HasValue y true b (2 ^ 1074) → add binary64 x y ≡ over binary64 (pos a -ℤ pos b) (2 ^ 1074)
unfolding sub neg
sum_apart x nan a b v w = absurd w
sum_apart x (inf t) a b v w = absurd w
sum_apart x (fin false q k) a b v w = absurd (true≢false (sym w.0))
sum_apart x (fin true q k) a b v w = difference_is binary64 x (fin false q k) a b 1074 v (refl, w.1)

sum_below : (x y : Float) (a b : ℕ) → HasValue x true a (2 ^ 1074) → HasValue y true b (2 ^ 1074) → add binary64 x y ≡ round binary64 true (a + b) (2 ^ 1074)
unfolding add sum
sum_below nan y a b v w = absurd v
sum_below (inf t) y a b v w = absurd v
sum_below (fin t m e) nan a b v w = absurd w
sum_below (fin t m e) (inf r) a b v w = absurd w
sum_below (fin false m e) (fin r q k) a b v w = absurd (true≢false (sym v.0))
sum_below (fin true m e) (fin false q k) a b v w = absurd (true≢false (sym w.0))
sum_below (fin true m e) (fin true q k) a b v w =
    total binary64 true (m * up e * down k) (q * up k * down e) (down e * down k) a b 1074 (mul-pos (down_pos e) (down_pos k))
    (left_over (m * up e) (down e) a (2 ^ 1074) (down k) v.1) (right_over (q * up k) (down k) b (2 ^ 1074) (down e) w.1)

pub sum_held : (x y : Float) (s t : Bool) (a b : ℕ) → HasValue x s a (2 ^ 1074) → HasValue y t b (2 ^ 1074) → (z : ℤ) → with_sign s a +ℤ with_sign t b ≡ z → IsShort (unsigned_abs z) → IsHeld (add binary64 x y) z 1074
sum_held x y s false a b v w z e h =
    subst (λ (u : Float). IsHeld u z 1074) (sym (sum_is binary64 x y s a b 1074 v w ∙ ap (λ (u : ℤ). over binary64 u (2 ^ 1074)) e)) (held_over z h)
sum_held x y false true a b v w z e h =
    let q : pos a -ℤ pos b ≡ z = omega (arith, ints, e) in
    subst (λ (u : Float). IsHeld u z 1074) (sym (sum_apart x y a b v w ∙ ap (λ (u : ℤ). over binary64 u (2 ^ 1074)) q)) (held_over z h)
sum_held x y true true a b v w z e h =
    let q : unsigned_abs z ≡ a + b = omega (arith, ints, e) in
    record {
      sign = true;
      size = a + b;
      value = subst (λ (u : Float). HasValue u true (a + b) (2 ^ 1074)) (sym (sum_below x y a b v w)) (kept true (a + b) (subst IsShort q h));
      number = omega (arith, ints, e);
    }

pub neg_value : (x : Float) (s : Bool) (a c : ℕ) → HasValue x s a c → HasValue (neg x) (not s) a c
unfolding neg
neg_value nan s a c v = absurd v
neg_value (inf t) s a c v = absurd v
neg_value (fin t m e) s a c v = (ap not v.0, v.1)

turned : (s : Bool) (a : ℕ) → with_sign (not s) a ≡ neg_ℤ (with_sign s a)
turned true a = omega (arith, ints)
turned false a = refl

pub difference_held : (x y : Float) (s t : Bool) (a b : ℕ) → HasValue x s a (2 ^ 1074) → HasValue y t b (2 ^ 1074) → (z : ℤ) → with_sign s a -ℤ with_sign t b ≡ z → IsShort (unsigned_abs z) → IsHeld (sub binary64 x y) z 1074
unfolding sub
difference_held x y s t a b v w z e h = sum_held x (neg y) s (not t) a b v (neg_value y t b (2 ^ 1074) w) z (omega (arith, ints, e, turned t b)) h

-- ---- what is left of d * 2 ^ k after the nearest multiple of 2 ^ 1106
abbrev pub gap : ℕ → ℕ → ℕ
gap a b = a - b + (b - a)

gap_times : (a b m : ℕ) → gap (a * m) (b * m) ≡ gap a b * m
gap_times a b m = (λ i. sym (minus_times a b m) i + sym (minus_times b a m) i) ∙ sym (add-mul (a - b) (b - a) m)

module _ (d k t : ℕ) (D : d < 2 ^ 53) (lo : 2 * (d * 2 ^ k) ≤ 2 * (t * 2 ^ 1106) + 2 ^ 1106) (hi : 2 * (t * 2 ^ 1106) ≤ 2 * (d * 2 ^ k) + 2 ^ 1106) where
  gap_small : 2 * gap (d * 2 ^ k) (t * 2 ^ 1106) ≤ 2 ^ 1106
  gap_small = omega (arith, lo, hi)

  -- all of it
  at_low : k ≤ 1052 → IsShort (gap (d * 2 ^ k) (t * 2 ^ 1106))
  at_low K =
      let n : d * 2 ^ k < 2 ^ 1105 = lt_of_lt_of_le (shl_lt 53 k D) (pow_mono {i = 53 + k} {j = 1105} (omega (arith, K))) in
      let p : 2 ^ 1106 ≡ 2 * 2 ^ 1105 = pow-add 2 1 1105 in
      let z : t * 2 ^ 1106 < 1 * 2 ^ 1106 = omega (arith, hi, n, p) in
      let none : t < 1 = lt_of_mul-lt-mul_right (2 ^ 1106) z in
      let same : t * 2 ^ 1106 ≡ 0 * 2 ^ 1106 = ap (λ (x : ℕ). x * 2 ^ 1106) {x = t} {y = 0} (omega (arith, none)) in
      record { digits = d; scale = k; is = omega (arith, same); few = D; near = omega (arith, K) }

  -- a multiple of 2 ^ k
  at_middle : 1052 < k → k ≤ 1106 → IsShort (gap (d * 2 ^ k) (t * 2 ^ 1106))
  at_middle L K =
      let m = t * 2 ^ (1106 - k) in
      let e : t * 2 ^ 1106 ≡ m * 2 ^ k =
      ap (λ (z : ℕ). t * z) (ap (λ (z : ℕ). 2 ^ z) {x = 1106} {y = 1106 - k + k} (omega (arith, K)) ∙ pow-add 2 (1106 - k) k) ∙ sym (mul_assoc t (2 ^ (1106 - k)) (2 ^ k)) in
      let g : gap (d * 2 ^ k) (t * 2 ^ 1106) ≡ gap d m * 2 ^ k = ap (gap (d * 2 ^ k)) e ∙ gap_times d m (2 ^ k) in
      let top : 2 ^ 1106 ≤ 2 ^ 53 * 2 ^ k = subst (λ (z : ℕ). 2 ^ 1106 ≤ z) (pow-add 2 53 k) (pow_mono {i = 1106} {j = 53 + k} (omega (arith, L))) in
      let P : 0 < 2 ^ k = pow_pos k in
      let f : gap d m * 2 ^ k < 2 ^ 53 * 2 ^ k = omega (arith, gap_small, g, top, P) in
      record { digits = gap d m; scale = k; is = g; few = lt_of_mul-lt-mul_right (2 ^ k) f; near = omega (arith, K) }

  -- nothing
  at_high : 1106 < k → IsShort (gap (d * 2 ^ k) (t * 2 ^ 1106))
  at_high L =
      let V : 0 < 2 ^ 1106 = pow_pos 1106 in
      let m = d * 2 ^ (k - 1106) in
      let e : d * 2 ^ k ≡ m * 2 ^ 1106 =
      ap (λ (z : ℕ). d * z) (ap (λ (z : ℕ). 2 ^ z) {x = k} {y = k - 1106 + 1106} (omega (arith, L)) ∙ pow-add 2 (k - 1106) 1106) ∙ sym (mul_assoc d (2 ^ (k - 1106)) (2 ^ 1106)) in
      let a : m < t + 1 = lt_of_mul-lt-mul_right (2 ^ 1106) (omega (arith, lo, e, V, add-mul t 1 (2 ^ 1106))) in
      let b : t < m + 1 = lt_of_mul-lt-mul_right (2 ^ 1106) (omega (arith, hi, e, V, add-mul m 1 (2 ^ 1106))) in
      let same : m * 2 ^ 1106 ≡ t * 2 ^ 1106 = ap (λ (z : ℕ). z * 2 ^ 1106) {x = m} {y = t} (omega (arith, a, b)) in
      record { digits = 0; scale = 0; is = omega (arith, e, same); few = lit< tt; near = lit≤ tt }

  rest_short : IsShort (gap (d * 2 ^ k) (t * 2 ^ 1106))
  rest_short = elim (cases_lt 1052 k) [
    | inl l ↦ elim (cases_lt 1106 k) [
      | inl h ↦ at_high h
      | inr g ↦ at_middle l g
    ]
    | inr g ↦ at_low g
  ]

-- ---- both sums
abs_sign : (s : Bool) (a : ℕ) → unsigned_abs (with_sign s a) ≡ a
abs_sign true a = omega (arith, ints)
abs_sign false a = refl

gap_is : (s : Bool) (a b : ℕ) → unsigned_abs (with_sign s a -ℤ with_sign s b) ≡ gap a b
gap_is true a b = omega (arith, ints)
gap_is false a b = omega (arith, ints)

pub near_is : (n u : ℕ) → 0 < u → IsNear n u (closest n u)
near_is n u U = subst (IsNear n u) (sym (closest_nearest n u)) (nearest_is n u U)

none_is : (u : ℕ) → 0 < u → closest 0 u ≡ 0
none_is u U =
    let r = near_is 0 u U in
    let l : closest 0 u < 1 = lt_of_mul-lt-mul_right u (omega (arith, r.above, U)) in
    omega (arith, l)

moved_is : (s : Bool) (t v : ℕ) → t ≤ 2 ^ 50 + 1 → pos (moved_from s t * v) -ℤ pos ((2 ^ 52 + 2 ^ 51) * v) ≡ with_sign s (t * v)
moved_is true t v T =
    let l : t * v ≤ (2 ^ 52 + 2 ^ 51) * v = mul-le-mul_right v (omega (arith, T)) in
    omega (arith, ints, l, minus_times (2 ^ 52 + 2 ^ 51) t v)
moved_is false t v T = omega (arith, ints, add-mul (2 ^ 52 + 2 ^ 51) t v)

same_sign : (s r : Bool) (c u : ℕ) → 0 < u → with_sign r c ≡ with_sign s c → with_sign r (closest c u) ≡ with_sign s (closest c u)
same_sign true true c u U e = refl
same_sign false false c u U e = refl
same_sign true false c u U e =
    let z : c ≡ 0 = omega (arith, ints, e) in
    let q : closest c u ≡ 0 = ap (λ (x : ℕ). closest x u) z ∙ none_is u U in
    omega (arith, ints, q)
same_sign false true c u U e =
    let z : c ≡ 0 = omega (arith, ints, e) in
    let q : closest c u ≡ 0 = ap (λ (x : ℕ). closest x u) z ∙ none_is u U in
    omega (arith, ints, q)

risen : (s : Bool) (a b : ℕ) → b ≤ a → with_sign s a -ℤ with_sign s b ≡ with_sign s (gap a b)
risen true a b h = omega (arith, ints)
risen false a b h = omega (arith, ints)

fallen : (s : Bool) (a b : ℕ) → a ≤ b → with_sign s a -ℤ with_sign s b ≡ with_sign (not s) (gap a b)
fallen true a b h = omega (arith, ints)
fallen false a b h = omega (arith, ints)

plus : (s : Bool) (a b : ℕ) → with_sign s (a + b) ≡ with_sign s a +ℤ with_sign s b
plus true a b = omega (arith, ints)
plus false a b = refl

minus : (s : Bool) (a b : ℕ) → b ≤ a → with_sign s (a - b) ≡ with_sign s a +ℤ with_sign (not s) b
minus true a b h = omega (arith, ints)
minus false a b h = omega (arith, ints)

-- n is rounded like its rest c after m whole numbers, where m is even
module _ (s r : Bool) (n m c u : ℕ) (U : 0 < u) (M : m % 2 ≡ 0) (C : c ≡ gap n (m * u)) (less : c < u * 2 ^ 32) (some : n < m * u → u * 2 ^ 32 ≤ m * u) (e : with_sign r c ≡ with_sign s n -ℤ with_sign s (m * u)) where
  up_row : m * u ≤ n → with_sign s (closest n u) ≡ with_sign s m +ℤ with_sign r (closest c u)
  up_row g =
      let q : n ≡ c + m * u = omega (arith, C, g) in
      ap (λ (z : ℕ). with_sign s (closest z u)) q
      ∙ ap (with_sign s) (closest_plus m c u M U)
      ∙ plus s m (closest c u)
      ∙ ap (λ (z : ℤ). with_sign s m +ℤ z) (sym (same_sign s r c u U (e ∙ risen s n (m * u) g ∙ ap (with_sign s) (sym C))))

  down_row : n < m * u → with_sign s (closest n u) ≡ with_sign s m +ℤ with_sign r (closest c u)
  down_row l =
      let q : n ≡ m * u - c = omega (arith, C, l) in
      let L : c < m * u = lt_of_lt_of_le less (some l) in
      let h = near_is c u U in
      let f : closest c u < m + 1 = lt_of_mul-lt-mul_right u (omega (arith, h.above, L, add-mul m 1 u, U)) in
      ap (λ (z : ℕ). with_sign s (closest z u)) q
      ∙ ap (with_sign s) (closest_minus m c u M U L)
      ∙ minus s m (closest c u) (omega (arith, f))
      ∙ ap (λ (z : ℤ). with_sign s m +ℤ z) (sym (same_sign (not s) r c u U (e ∙ fallen s n (m * u) (omega (arith, l)) ∙ ap (with_sign (not s)) (sym C))))

  row_by_rest : with_sign s (closest n u) ≡ with_sign s m +ℤ with_sign r (closest c u)
  row_by_rest = elim (cases_lt n (m * u)) [
    | inl l ↦ down_row l
    | inr g ↦ up_row g
  ]

-- the bits of both sums, and what they are together
pub record AreSums (s : Bool) (n : ℕ) (upper lower : Float) : Type 0 where
  pub below : Bool
  pub high : ℕ
  pub low : ℕ
  pub upper_number : T (not (is_nan upper))
  pub lower_number : T (not (is_nan lower))
  pub upper_bits : to_bits binary64 upper ≡ 1106 * 2 ^ 52 + moved_from s high
  pub lower_bits : to_bits binary64 lower ≡ 1074 * 2 ^ 52 + moved_from below low
  pub high_small : high ≤ 2 ^ 50 + 1
  pub low_small : low ≤ 2 ^ 50 + 1
  pub row : with_sign s (closest n (2 ^ 1074)) ≡ with_sign s (high * 2 ^ 32) +ℤ with_sign below low

abbrev pub upper_centre : Float
upper_centre = of_bits binary64 (suc 1106 * 2 ^ 52 + 2 ^ 51)

abbrev pub centre : Float
centre = of_bits binary64 (suc 1074 * 2 ^ 52 + 2 ^ 51)

abbrev pub upper_of : Float → Float
upper_of y = add binary64 y upper_centre

abbrev pub lower_of : Float → Float
lower_of y = add binary64 (sub binary64 y (sub binary64 (upper_of y) upper_centre)) centre

module _ (y : Float) (s : Bool) (d k : ℕ) (D : d < 2 ^ 53) (v : HasValue y s (d * 2 ^ k) (2 ^ 1074)) (few : d * 2 ^ k ≤ 2 ^ 32 * 2 ^ 1106) where
  abbrev n : ℕ
  n = d * 2 ^ k

  abbrev upper : Float
  upper = upper_of y

  abbrev rest : Float
  rest = sub binary64 y (sub binary64 upper upper_centre)

  abbrev lower : Float
  lower = lower_of y

  abbrev t : ℕ
  t = closest n (2 ^ 1106)

  upper_centre_value : HasValue upper_centre false ((2 ^ 52 + 2 ^ 51) * 2 ^ 1106) (2 ^ 1074)
  upper_centre_value = packed_value binary64 1106 (2 ^ 51) (lit< tt) (lit< tt)

  centre_value : HasValue centre false ((2 ^ 52 + 2 ^ 51) * 2 ^ 1074) (2 ^ 1074)
  centre_value = packed_value binary64 1074 (2 ^ 51) (lit< tt) (lit< tt)

  V : 0 < 2 ^ 1106
  V = pow_pos 1106

  many : n ≤ 2 ^ 50 * 2 ^ 1106
  many = omega (arith, few)

  small : t ≤ 2 ^ 50 + 1
  small = closest_small n (2 ^ 1106) V many

  upper_is : upper ≡ round binary64 false (beside s n (2 ^ 1106)) (2 ^ 1074)
  upper_is = moved binary64 y upper_centre s n ((2 ^ 52 + 2 ^ 51) * 2 ^ 1106) 1074 v upper_centre_value (low_enough n (2 ^ 1106) V many).1

  upper_value : HasValue upper false (moved_from s t * 2 ^ 1106) (2 ^ 1074)
  unfolding Beside
  upper_value = subst (λ (z : Float). HasValue z false (moved_from s t * 2 ^ 1106) (2 ^ 1074)) (sym upper_is) (beside_is 1106 (lit≤ tt) (lit≤ tt) s n many).0

  first : IsHeld (sub binary64 upper upper_centre) (with_sign s (t * 2 ^ 1106)) 1074
  first =
      difference_held upper upper_centre false false (moved_from s t * 2 ^ 1106) ((2 ^ 52 + 2 ^ 51) * 2 ^ 1106) upper_value upper_centre_value (with_sign s (t * 2 ^ 1106)) (moved_is s t (2 ^ 1106) small)
      (record { digits = t; scale = 1106; is = abs_sign s (t * 2 ^ 1106); few = omega (arith, small); near = lit≤ tt })

  near : IsNear n (2 ^ 1106) t
  near = near_is n (2 ^ 1106) V

  second : IsHeld rest (with_sign s n -ℤ with_sign s (t * 2 ^ 1106)) 1074
  second =
      difference_held y (sub binary64 upper upper_centre) s first.sign n first.size v first.value (with_sign s n -ℤ with_sign s (t * 2 ^ 1106)) (ap (λ (z : ℤ). with_sign s n -ℤ z) first.number)
      (subst IsShort (sym (gap_is s n (t * 2 ^ 1106))) (rest_short d k t D near.below near.above))

  size_is : second.size ≡ gap n (t * 2 ^ 1106)
  size_is = sym (abs_sign second.sign second.size) ∙ ap unsigned_abs second.number ∙ gap_is s n (t * 2 ^ 1106)

  split : 2 ^ 1106 ≡ 2 ^ 32 * 2 ^ 1074
  split = pow-add 2 32 1074

  half : 2 * second.size ≤ 2 ^ 32 * 2 ^ 1074
  half = omega (arith, gap_small d k t D near.below near.above, size_is, split)

  rest_small : second.size ≤ 2 ^ 50 * 2 ^ 1074
  rest_small = omega (arith, half)

  lower_is : lower ≡ round binary64 false (beside second.sign second.size (2 ^ 1074)) (2 ^ 1074)
  lower_is = moved binary64 rest centre second.sign second.size ((2 ^ 52 + 2 ^ 51) * 2 ^ 1074) 1074 second.value centre_value (low_enough second.size (2 ^ 1074) (pow_pos 1074) rest_small).1

  whole_part : t * 2 ^ 32 * 2 ^ 1074 ≡ t * 2 ^ 1106
  whole_part = mul_assoc t (2 ^ 32) (2 ^ 1074) ∙ ap (λ (z : ℕ). t * z) (sym split)

  some_part : n < t * 2 ^ 32 * 2 ^ 1074 → 2 ^ 1074 * 2 ^ 32 ≤ t * 2 ^ 32 * 2 ^ 1074
  some_part l =
      let a : 0 * 2 ^ 1106 < t * 2 ^ 1106 = omega (arith, l, whole_part) in
      let b : 0 < t = lt_of_mul-lt-mul_right (2 ^ 1106) a in
      let c : 1 * 2 ^ 1106 ≤ t * 2 ^ 1106 = mul-le-mul_right (2 ^ 1106) b in
      omega (arith, c, whole_part, split)

  pub both_sums : AreSums s n upper lower
  unfolding Beside
  both_sums =
      let U = pow_pos 1074 in
      let b = beside_is 1106 (lit≤ tt) (lit≤ tt) s n many in
      let c = beside_is 1074 (lit≤ tt) (lit≤ tt) second.sign second.size rest_small in
      record {
        below = second.sign;
        high = t;
        low = closest second.size (2 ^ 1074);
        upper_number = is_number upper false (moved_from s t * 2 ^ 1106) (2 ^ 1074) upper_value;
        lower_number = subst (λ (z : Float). T (not (is_nan z))) (sym lower_is) (is_number _ false (moved_from second.sign (closest second.size (2 ^ 1074)) * 2 ^ 1074) (2 ^ 1074) c.0);
        upper_bits = ap (to_bits binary64) upper_is ∙ b.1;
        lower_bits = ap (to_bits binary64) lower_is ∙ c.1;
        high_small = small;
        low_small = closest_small second.size (2 ^ 1074) U rest_small;
        row = row_by_rest s second.sign n (t * 2 ^ 32) second.size (2 ^ 1074) U (omega arith) (size_is ∙ ap (gap n) (sym whole_part)) (omega (arith, half, U)) some_part
            (second.number ∙ ap (λ (z : ℕ). with_sign s n -ℤ with_sign s z) (sym whole_part));
      }

-- ---- the float x in units of 2 ^ -g
size_again : (x : Float) (s t : Bool) (a b : ℕ) → HasValue x s a (2 ^ 1074) → HasValue x t b (2 ^ 1074) → a ≡ b
size_again nan s t a b v w = absurd v
size_again (inf r) s t a b v w = absurd v
size_again (fin r m e) s t a b v w = eq_of_mul-eq-mul_right (down e) (down_pos e) a b (sym v.1 ∙ w.1)

finite_by : (x : Float) (s : Bool) (a : ℕ) → HasValue x s a (2 ^ 1074) → float_is_finite x ≡ true
unfolding float_is_finite
finite_by nan s a v = absurd v
finite_by (inf r) s a v = absurd v
finite_by (fin r m e) s a v = refl

pub record IsSplit (x : Float) (g : ℕ) (y : Float) : Type 0 where
  pub sign : Bool
  pub size : ℕ
  pub sums : AreSums sign size (upper_of y) (lower_of y)
  pub row : units_of_float x g Even ≡ Some (with_sign sign (closest size (2 ^ 1074)))

pub split_by_sums : (x : Float) (fit : T (fits binary64 x)) (g : ℕ) (G : g ≤ 64) → IsMedium x g → IsSplit x g (mul binary64 x (power x fit g G))
split_by_sums x fit g G h =
    let p = parts_exist x fit (finite_by x h.sign h.size h.value) in
    let e : h.size ≡ p.0.digits * 2 ^ p.0.scale = size_again x h.sign p.0.below_zero h.size (p.0.digits * 2 ^ p.0.scale) h.value p.1.value in
    let n : p.0.digits * 2 ^ (p.0.scale + g) ≡ p.0.digits * 2 ^ p.0.scale * 2 ^ g = n_is x fit g G p.0 p.1 in
    let few : p.0.digits * 2 ^ (p.0.scale + g) ≤ 2 ^ 32 * 2 ^ 1106 = omega (arith, h.medium, n, ap (λ (z : ℕ). z * 2 ^ g) e, pow-add 2 32 1074) in
    let fine : p.0.digits * 2 ^ (p.0.scale + g) < 2 ^ (1074 + suc 1023) = lt_of_le_of_lt few (lit< tt) in
    record {
      sign = p.0.below_zero;
      size = p.0.digits * 2 ^ (p.0.scale + g);
      sums = both_sums (mul binary64 x (power x fit g G)) p.0.below_zero p.0.digits (p.0.scale + g) p.1.digits (scaled_value x fit g G p.0 p.1 fine) few;
      row = row_of_parts x p.0 g Even p.1
          ∙ ap Some (rounded_magnitude Even p.0.below_zero (p.0.digits * 2 ^ (p.0.scale + g)) (2 ^ 1074) (pow_pos 1074)
          ∙ ap (with_sign p.0.below_zero) (sym (closest_stepped (p.0.digits * 2 ^ (p.0.scale + g)) (2 ^ 1074) p.0.below_zero)));
    }
