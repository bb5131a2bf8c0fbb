-- The difference of two floats above 0, and its sum with a third one: a number over a divisor, rounded once.
use Rattle.std.proofs.Common.{◌≡◌, ◌+◌, ◌-◌, ◌*◌, ◌^◌, ◌<◌, ◌≤◌, ◌+ℤ◌, ◌-ℤ◌, ℕ, ℤ, suc, Bool, true, false, ◌&&◌, ltb, T, not, pos, negsuc, neg_ℤ, refl, ap, sym, ◌∙◌, subst, arith, inl, inr, lit<, true≢false}
use mathlib.Core.Bool.{cond}
use native.Mathlib.Nat.{eq_of_mul-eq-mul_right, le_of_mul-le-mul_right, lt_of_lt_of_le, mul_assoc, mul_right_comm, mul-le-mul_right, mul-lt-mul_of_pos_right, mul-pos}
use Rattle.std.proofs.lemmas.Bool.{cases_lt, le-ltb, lt-ltb}
use Rattle.std.proofs.lemmas.Int.{ints}
use lib.Pow.{pow-add, pow_mono, pow_pos}
use Rattle.std.specs.Float.{Float, Format, binary32, binary64, nan, inf, fin}
use lib.Ieee.{add, down, emax, hid, low, nan_bits, neg, of_bits, ones, prec, round, sub, sum, up}
use lib.Ieee.Exact.{HasValue, round_exact}
use lib.Ieee.Fits.{down_pos}
use lib.Ieee.Scale.{round_same}
use Rattle.fixed_word.specs.Format.{with_sign}
use Rattle.fixed_float.specs.Rows.{nearest_float}
use Rattle.fixed_float.proofs.Fields.{packed_not_nan, packed_value}
use Rattle.fixed_float.proofs.Formats.{digits_in, least_in, reach_in}
use Rattle.fixed_float.proofs.Sums.{left_over, minus_times, right_over, same_minus, same_order, total}

-- z over c, rounded
abbrev pub over : Format → ℤ → ℕ → Float
over f (pos n) c = round f false n c
over f (negsuc n) c = round f true (suc n) c

pub nearest_is : (f : Format) (z : ℤ) (g : ℕ) → over f z (2 ^ g) ≡ nearest_float f z g
nearest_is f (pos n) g = refl
nearest_is f (negsuc n) g = refl

-- ---- which of two numbers is the greater one
above : (a b : ℕ) → b ≤ a → pos a -ℤ pos b ≡ pos (a - b)
above a b h = omega (arith, ints)

below : (a b : ℕ) → a < b → pos a -ℤ pos b ≡ negsuc (b - suc a)
below a b h = omega (arith, ints)

pub same_le : (A B D a b c : ℕ) → 0 < c → A * c ≡ a * D → B * c ≡ b * D → a ≤ b → A ≤ B
same_le A B D a b c C h k l = le_of_mul-le-mul_right (subst (λ (z : ℕ). z ≤ B * c) (sym h) (subst (λ (z : ℕ). a * D ≤ z) (sym k) (mul-le-mul_right D l))) C

over_above : (f : Format) (a b c : ℕ) → b ≤ a → round f false (a - b) c ≡ over f (pos a -ℤ pos b) c
over_above f a b c h = ap (λ (z : ℤ). over f z c) (sym (above a b h))

over_below : (f : Format) (a b c : ℕ) → a < b → round f true (b - a) c ≡ over f (pos a -ℤ pos b) c
over_below f a b c h =
    let e : suc (b - suc a) ≡ b - a = omega arith in
    ap (λ (z : ℕ). round f true z c) (sym e) ∙ ap (λ (z : ℤ). over f z c) (sym (below a b h))

-- ---- A less B over D, which is a less b over 2 ^ l
module _ (f : Format) (A B D a b l : ℕ) (P : 0 < D) (i : A * 2 ^ l ≡ a * D) (j : B * 2 ^ l ≡ b * D) where
  upward : b ≤ a → round f false (A - B) D ≡ over f (pos a -ℤ pos b) (2 ^ l)
  upward h = round_same f false (A - B) D (a - b) (2 ^ l) P (pow_pos l) (same_minus A B D a b (2 ^ l) i j) ∙ over_above f a b (2 ^ l) h

  downward : a < b → round f true (B - A) D ≡ over f (pos a -ℤ pos b) (2 ^ l)
  downward h = round_same f true (B - A) D (b - a) (2 ^ l) P (pow_pos l) (same_minus B A D b a (2 ^ l) j i) ∙ over_below f a b (2 ^ l) h

  -- a difference of two numbers above 0
  pub apart : cond (ltb A B) (round f true (B - A) D) (round f false (A - B) D) ≡ over f (pos a -ℤ pos b) (2 ^ l)
  apart = elim (cases_lt a b) [
    | inl h ↦ rw (lt-ltb A B (same_order A B D a b (2 ^ l) P (pow_pos l) i j h)) (downward h)
    | inr h ↦ rw (le-ltb A B (same_le B A D b a (2 ^ l) (pow_pos l) j i h)) (upward h)
  ]

  -- the same where the number below 0 comes first
  pub turned : cond (ltb B A) (round f false (A - B) D) (round f (true && ltb A B) (B - A) D) ≡ over f (pos a -ℤ pos b) (2 ^ l)
  turned = elim (cases_lt b a) [
    | inl h ↦ rw (lt-ltb B A (same_order B A D b a (2 ^ l) P (pow_pos l) j i h)) (upward (omega arith))
    | inr h ↦ rw (le-ltb B A (same_le A B D a b (2 ^ l) (pow_pos l) i j h)) (elim (cases_lt a b) [
      | inl k ↦ rw (lt-ltb A B (same_order A B D a b (2 ^ l) P (pow_pos l) i j k)) (downward k)
      | inr k ↦
          let z : B - A ≡ A - B = omega (arith, same_le A B D a b (2 ^ l) (pow_pos l) i j h, same_le B A D b a (2 ^ l) (pow_pos l) j i k) in
          rw (le-ltb A B (same_le B A D b a (2 ^ l) (pow_pos l) j i k), z) (upward k)
    ])
  ]

-- ---- sums over the divisor 2 ^ l
pub difference_is : (f : Format) (x y : Float) (a b l : ℕ) → HasValue x false a (2 ^ l) → HasValue y false b (2 ^ l) → sub f x y ≡ over f (pos a -ℤ pos b) (2 ^ l)
unfolding sub add sum neg
difference_is f nan y a b l v w = absurd v
difference_is f (inf t) y a b l v w = absurd v
difference_is f (fin t m e) nan a b l v w = absurd w
difference_is f (fin t m e) (inf r) a b l v w = absurd w
difference_is f (fin true m e) (fin r q k) a b l v w = absurd (true≢false v.0)
difference_is f (fin false m e) (fin true q k) a b l v w = absurd (true≢false w.0)
difference_is f (fin false m e) (fin false q k) a b l v w =
    apart f (m * up e * down k) (q * up k * down e) (down e * down k) a b l (mul-pos (down_pos e) (down_pos k))
    (left_over (m * up e) (down e) a (2 ^ l) (down k) v.1) (right_over (q * up k) (down k) b (2 ^ l) (down e) w.1)

pub sum_is : (f : Format) (x y : Float) (s : Bool) (a b l : ℕ) → HasValue x s a (2 ^ l) → HasValue y false b (2 ^ l) → add f x y ≡ over f (with_sign s a +ℤ pos b) (2 ^ l)
unfolding add sum
sum_is f nan y s a b l v w = absurd v
sum_is f (inf t) y s a b l v w = absurd v
sum_is f (fin t m e) nan s a b l v w = absurd w
sum_is f (fin t m e) (inf r) s a b l v w = absurd w
sum_is f (fin t m e) (fin true q k) s a b l v w = absurd (true≢false w.0)
sum_is f (fin true m e) (fin false q k) false a b l v w = absurd (true≢false v.0)
sum_is f (fin false m e) (fin false q k) true a b l v w = absurd (true≢false (sym v.0))
sum_is f (fin false m e) (fin false q k) false a b l v w =
    total f false (m * up e * down k) (q * up k * down e) (down e * down k) a b l (mul-pos (down_pos e) (down_pos k))
    (left_over (m * up e) (down e) a (2 ^ l) (down k) v.1) (right_over (q * up k) (down k) b (2 ^ l) (down e) w.1)
sum_is f (fin true m e) (fin false q k) true a b l v w =
    let same : neg_ℤ (pos a) +ℤ pos b ≡ pos b -ℤ pos a = omega (arith, ints) in
    turned f (q * up k * down e) (m * up e * down k) (down e * down k) b a l (mul-pos (down_pos e) (down_pos k))
    (right_over (q * up k) (down k) b (2 ^ l) (down e) w.1) (left_over (m * up e) (down e) a (2 ^ l) (down k) v.1)
    ∙ ap (λ (z : ℤ). over f z (2 ^ l)) (sym same)

-- ---- what is packed into a float's lowest bits
pub rescaled : (x : Float) (s : Bool) (w l a c : ℕ) → 0 < l → a * l ≡ w * c → HasValue x s w l → HasValue x s a c
rescaled nan s w l a c p h v = v
rescaled (inf t) s w l a c p h v = v
rescaled (fin t m e) s w l a c p h v = (
  v.0,
  eq_of_mul-eq-mul_right l p (m * up e * c) (a * down e)
      (mul_right_comm (m * up e) c l
      ∙ ap (λ (z : ℕ). z * c) v.1
      ∙ mul_right_comm w (down e) c
      ∙ ap (λ (z : ℕ). z * down e) (sym h)
      ∙ mul_right_comm a l (down e)),
)

-- q * 2 ^ h over 2 ^ g, in units of the least float above 0
moved : (f : Format) (q h g : ℕ) → g ≤ 64 → q * 2 ^ h * 2 ^ low f ≡ q * 2 ^ (low f + h - g) * 2 ^ g
moved f q h g G =
    mul_assoc q (2 ^ h) (2 ^ low f)
    ∙ ap (λ (z : ℕ). q * z) (sym (pow-add 2 h (low f)) ∙ ap (λ (z : ℕ). 2 ^ z) {x = h + low f} {y = low f + h - g + g} (omega (arith, least_in f)) ∙ pow-add 2 (low f + h - g) g)
    ∙ sym (mul_assoc q (2 ^ (low f + h - g)) (2 ^ g))

room_in : (f : Format) → low f + 34 < ones f
room_in binary32 = lit< tt
room_in binary64 = lit< tt

module _ (f : Format) (t by g : ℕ) (H : t < hid f) (B : by ≤ 32) (G : g ≤ 64) where
  abbrev pub field : ℕ
  field = suc (low f + by - g)

  in_field : field < ones f
  in_field = omega (arith, room_in f)

  pub field_not_nan : T (not (nan_bits f (field * hid f + t)))
  field_not_nan = packed_not_nan f (low f + by - g) t in_field H

  pub field_value : HasValue (of_bits f (field * hid f + t)) false ((hid f + t) * 2 ^ by) (2 ^ g)
  field_value =
      rescaled (of_bits f (field * hid f + t)) false ((hid f + t) * 2 ^ (low f + by - g)) (2 ^ low f) ((hid f + t) * 2 ^ by) (2 ^ g) (pow_pos (low f))
      (moved f (hid f + t) by g G) (packed_value f (low f + by - g) t in_field H)

-- ---- a difference of few digits is a float
pub exact_at : (f : Format) (s : Bool) (q h g : ℕ) → q < 2 ^ prec f → h ≤ 32 → g ≤ 64 → HasValue (round f s (q * 2 ^ h) (2 ^ g)) s (q * 2 ^ h) (2 ^ g)
exact_at f s q h g Q H G =
    let room : q * 2 ^ (low f + h - g) < 2 ^ (prec f + (low f + h - g)) = subst (λ (z : ℕ). q * 2 ^ (low f + h - g) < z) (sym (pow-add 2 (prec f) (low f + h - g))) (mul-lt-mul_of_pos_right Q (pow_pos (low f + h - g))) in
    round_exact f s (q * 2 ^ h) (2 ^ g) q (low f + h - g) (pow_pos g) Q
    (lt_of_lt_of_le room (pow_mono {i = prec f + (low f + h - g)} {j = low f + suc (emax f)} (omega (arith, digits_in f, least_in f, reach_in f)))) (moved f q h g G)

-- z over 2 ^ g is a float, with its sign
pub record IsHeld (x : Float) (z : ℤ) (g : ℕ) : Type 0 where
  pub sign : Bool
  pub size : ℕ
  pub value : HasValue x sign size (2 ^ g)
  pub number : with_sign sign size ≡ z

held_at : (f : Format) (u v h g : ℕ) → u < 2 ^ prec f → v < 2 ^ prec f → h ≤ 32 → g ≤ 64 → IsHeld (over f (pos (u * 2 ^ h) -ℤ pos (v * 2 ^ h)) (2 ^ g)) (pos (u * 2 ^ h) -ℤ pos (v * 2 ^ h)) g
held_at f u v h g U V H G = elim (cases_lt u v) [
  | inl l ↦
      let m = mul-lt-mul_of_pos_right l (pow_pos h) in
      let n = minus_times v u (2 ^ h) in
      record {
        sign = true;
        size = (v - u) * 2 ^ h;
        value = subst (λ (x : Float). HasValue x true ((v - u) * 2 ^ h) (2 ^ g)) (ap (λ (z : ℕ). round f true z (2 ^ g)) n ∙ over_below f (u * 2 ^ h) (v * 2 ^ h) (2 ^ g) m) (exact_at f true (v - u) h g (omega arith) H G);
        number = omega (arith, ints, m, n);
      }
  | inr l ↦
      let m = mul-le-mul_right (2 ^ h) l in
      let n = minus_times u v (2 ^ h) in
      record {
        sign = false;
        size = (u - v) * 2 ^ h;
        value = subst (λ (x : Float). HasValue x false ((u - v) * 2 ^ h) (2 ^ g)) (ap (λ (z : ℕ). round f false z (2 ^ g)) n ∙ over_above f (u * 2 ^ h) (v * 2 ^ h) (2 ^ g) m) (exact_at f false (u - v) h g (omega arith) H G);
        number = omega (arith, ints, m, n);
      }
]

-- x less y, plus t: only the sum rounds
pub halves_are : (f : Format) (u v h b g : ℕ) → u < 2 ^ prec f → v < 2 ^ prec f → h ≤ 32 → g ≤ 64 → (x y t : Float)
    → HasValue x false (u * 2 ^ h) (2 ^ g) → HasValue y false (v * 2 ^ h) (2 ^ g) → HasValue t false b (2 ^ g)
    → add f (sub f x y) t ≡ over f (pos (u * 2 ^ h) -ℤ pos (v * 2 ^ h) +ℤ pos b) (2 ^ g)
halves_are f u v h b g U V H G x y t p q r =
    let k = held_at f u v h g U V H G in
    ap (λ (z : Float). add f z t) (difference_is f x y (u * 2 ^ h) (v * 2 ^ h) g p q)
    ∙ sum_is f (over f (pos (u * 2 ^ h) -ℤ pos (v * 2 ^ h)) (2 ^ g)) t k.sign k.size b g k.value r
    ∙ ap (λ (z : ℤ). over f (z +ℤ pos b) (2 ^ g)) k.number
