-- The float nearest to a whole number, times a power of two.
use Rattle.std.proofs.Common.{◌≡◌, ◌+◌, ◌-◌, ◌*◌, ◌/◌, ◌%◌, ◌^◌, ◌<◌, ◌≤◌, ℕ, ℤ, zero, suc, Bool, true, false, pos, negsuc, T, not, unsigned_abs, refl, ap, sym, ◌∙◌, subst, arith, inl, inr, true≢false}
use Prim.Native.Nat.{compare}
use native.Mathlib.Nat.{div-div-eq-div-mul, div-lt_iff_lt-mul, le_refl, le_trans, lt_of_le_of_lt, lt_of_lt_of_le, mul-le-mul_right, mul-mul-mul_comm, mul_assoc, mul_comm, mul-pos, pow-succ'}
use Rattle.std.proofs.Math.Nat.{le-mul_of_pos_right}
use Rattle.std.proofs.lemmas.Bool.{cases_lt}
use Rattle.std.proofs.lemmas.Int.{ints}
use lib.Pow.{pow-add, pow-lt, pow_mono, pow_pos, shl_lt}
use Rattle.std.specs.Float.{Float, Format, binary32, binary64, nan, inf, fin}
use lib.Ieee.{down, emax, hid, low, mul, nan_bits, of_bits, of_int, ones, prec, round, size, top, up}
use lib.Ieee.Digits.{size-le}
use lib.Ieee.Exact.{HasValue, round_exact, units_val}
use lib.Ieee.Fits.{down_pos, kept-lt, nearest-le, round-fits, round_is}
use lib.Ieee.Order.{drop, kept}
use lib.Ieee.Scale.{grid, grid_scale, normal_of_fraction, overflow, round_same}
use Rattle.fixed_word.specs.Format.{InRange, IsWidth}
use Rattle.fixed_word.proofs.Wraps.{width_pos}
use Rattle.fixed_float.specs.Rows.{nearest_float}
use Rattle.fixed_float.proofs.Fields.{packed_not_nan, packed_value}
use Rattle.fixed_float.proofs.Formats.{digits_in, least_in, reach_in, round_none, same_value, twice_hid}

pub field_is : (f : Format) → ones f ≡ 2 * emax f + 1
field_is f = refl

pub low_is : (f : Format) → low f + 2 ≡ emax f + prec f
low_is binary32 = refl
low_is binary64 = refl

-- ---- the product with a float above 0
pub times_is : (f : Format) (x y : Float) (s : Bool) (a b c d : ℕ) → 0 < c → 0 < d → HasValue x s a c → HasValue y false b d → mul f x y ≡ round f s (a * b) (c * d)
unfolding mul
times_is f nan y s a b c d C D v w = absurd v
times_is f (inf t) y s a b c d C D v w = absurd v
times_is f (fin t m e) nan s a b c d C D v w = absurd w
times_is f (fin t m e) (inf r) s a b c d C D v w = absurd w
times_is f (fin t m e) (fin true n k) s a b c d C D v w = absurd (true≢false w.0)
times_is f (fin true m e) (fin false n k) false a b c d C D v w = absurd (true≢false v.0)
times_is f (fin false m e) (fin false n k) true a b c d C D v w = absurd (true≢false (sym v.0))
times_is f (fin true m e) (fin false n k) true a b c d C D v w =
    round_same f true (m * up e * (n * up k)) (down e * down k) (a * b) (c * d) (mul-pos (down_pos e) (down_pos k)) (mul-pos C D)
    (mul-mul-mul_comm (m * up e) (n * up k) c d ∙ (λ i. v.1 i * w.1 i) ∙ mul-mul-mul_comm a (down e) b (down k))
times_is f (fin false m e) (fin false n k) false a b c d C D v w =
    round_same f false (m * up e * (n * up k)) (down e * down k) (a * b) (c * d) (mul-pos (down_pos e) (down_pos k)) (mul-pos C D)
    (mul-mul-mul_comm (m * up e) (n * up k) c d ∙ (λ i. v.1 i * w.1 i) ∙ mul-mul-mul_comm a (down e) b (down k))

-- ---- n over 2 ^ g, rounded, in units of the least float above 0
rounded_value : (f : Format) (s : Bool) (a c : ℕ) → grid f a c < overflow f → HasValue (round f s a c) s (grid f a c) (2 ^ low f)
rounded_value f s a c h =
    subst (λ (x : Float). HasValue x s (grid f a c) (2 ^ low f)) (sym (round_is f s a c)) (units_val f s (kept (prec f) (a * 2 ^ low f) c) (drop (prec f) (a * 2 ^ low f) c) h)

-- what is kept has no more digits than the format
kept_in : (f : Format) (n c : ℕ) → kept (prec f) n c ≤ 2 ^ prec f
kept_in f n c =
    let u = c * 2 ^ drop (prec f) n c in
    le_trans (nearest-le (n / u) (compare (n % u * 2) u)) (subst (λ (x : ℕ). x < 2 ^ prec f) (div-div-eq-div-mul n c (2 ^ drop (prec f) n c)) (kept-lt (prec f) (n / c)))

-- and is rounded to itself
kept_value : (f : Format) (s : Bool) (q k : ℕ) → q ≤ 2 ^ prec f → q * 2 ^ k < overflow f → HasValue (round f s (q * 2 ^ k) (2 ^ low f)) s (q * 2 ^ k) (2 ^ low f)
kept_value f s q k h fine = elim (cases_lt q (2 ^ prec f)) [
  | inl l ↦ round_exact f s (q * 2 ^ k) (2 ^ low f) q k (pow_pos (low f)) l fine refl
  | inr g ↦
      let two : q ≡ 2 * hid f = omega (arith, twice_hid f) in
      let e : q * 2 ^ k ≡ hid f * 2 ^ suc k = ap (λ (z : ℕ). z * 2 ^ k) (two ∙ mul_comm 2 (hid f)) ∙ mul_assoc (hid f) 2 (2 ^ k) ∙ ap (λ (z : ℕ). hid f * z) (sym (pow-succ' 2 k)) in
      round_exact f s (q * 2 ^ k) (2 ^ low f) (hid f) (suc k) (pow_pos (low f)) (omega (arith, twice_hid f, pow_pos (prec f - 1)))
      (subst (λ (z : ℕ). z < overflow f) e fine) (ap (λ (z : ℕ). z * 2 ^ low f) e)
]

module _ (f : Format) (n g : ℕ) (N : n < 2 ^ 64) (G : g ≤ 64) where
  abbrev units : ℕ
  units = n * 2 ^ low f

  abbrev dropped : ℕ
  dropped = drop (prec f) units (2 ^ g)

  digits : size (units / 2 ^ g) ≤ 64 + low f - g
  digits =
      let e : 2 ^ (64 + low f) ≡ 2 ^ (64 + low f - g) * 2 ^ g = ap (λ (z : ℕ). 2 ^ z) {x = 64 + low f} {y = 64 + low f - g + g} (omega arith) ∙ pow-add 2 (64 + low f - g) g in
      size-le (units / 2 ^ g) (64 + low f - g) ((div-lt_iff_lt-mul (pow_pos g)).1 (subst (λ (z : ℕ). units < z) e (shl_lt 64 (low f) N)))

  -- times 2 ^ g, it is a float still
  room : grid f n (2 ^ g) * 2 ^ g < overflow f
  room =
      let q = kept (prec f) units (2 ^ g) in
      let a : q * 2 ^ dropped * 2 ^ g ≡ q * 2 ^ (dropped + g) = mul_assoc q (2 ^ dropped) (2 ^ g) ∙ ap (λ (z : ℕ). q * z) (sym (pow-add 2 dropped g)) in
      let b : q * 2 ^ (dropped + g) ≤ 2 ^ (prec f + (dropped + g)) =
      subst (λ (z : ℕ). q * 2 ^ (dropped + g) ≤ z) (sym (pow-add 2 (prec f) (dropped + g))) (mul-le-mul_right (2 ^ (dropped + g)) (kept_in f units (2 ^ g))) in
      subst (λ (z : ℕ). z < overflow f) (sym a)
      (lt_of_le_of_lt b (pow-lt {i = prec f + (dropped + g)} {j = low f + suc (emax f)} (omega (arith, digits, digits_in f, least_in f, reach_in f))))

  fine : grid f n (2 ^ g) < overflow f
  fine = lt_of_le_of_lt (le-mul_of_pos_right (grid f n (2 ^ g)) (pow_pos g)) room

  pub over_value : (s : Bool) → HasValue (round f s n (2 ^ g)) s (grid f n (2 ^ g)) (2 ^ low f)
  over_value s = rounded_value f s n (2 ^ g) fine

  pub grid_value : (s : Bool) → HasValue (round f s (grid f n (2 ^ g)) (2 ^ low f)) s (grid f n (2 ^ g)) (2 ^ low f)
  grid_value s = kept_value f s (kept (prec f) units (2 ^ g)) dropped (kept_in f units (2 ^ g)) fine

  normal : 0 < n → prec f ≤ size (units / 2 ^ g)
  normal some =
      let a : 2 ^ (prec f - 1) * 2 ^ g ≤ 2 ^ low f = subst (λ (z : ℕ). z ≤ 2 ^ low f) (pow-add 2 (prec f - 1) g) (pow_mono {i = prec f - 1 + g} {j = low f} (omega (arith, digits_in f, least_in f))) in
      let b : 1 * 2 ^ low f ≤ units = mul-le-mul_right (2 ^ low f) some in
      normal_of_fraction f n (2 ^ g) (pow_pos g) (omega (arith, a, b))

  -- the whole number is rounded at the same digit
  pub whole_value : (s : Bool) → 0 < n → HasValue (round f s n 1) s (grid f n (2 ^ g) * 2 ^ g) (2 ^ low f)
  whole_value s some =
      let e : grid f (n * 2 ^ g) (2 ^ g) ≡ grid f n (2 ^ g) * 2 ^ g = grid_scale f n (2 ^ g) g (pow_pos g) (normal some) in
      let same : round f s n 1 ≡ round f s (n * 2 ^ g) (2 ^ g) = round_same f s n 1 (n * 2 ^ g) (2 ^ g) (omega arith) (pow_pos g) (omega arith) in
      subst (λ (x : Float). HasValue x s (grid f n (2 ^ g) * 2 ^ g) (2 ^ low f)) (sym same)
      (subst (λ (z : ℕ). HasValue (round f s (n * 2 ^ g) (2 ^ g)) s z (2 ^ low f)) e (rounded_value f s (n * 2 ^ g) (2 ^ g) (subst (λ (z : ℕ). z < overflow f) (sym e) room)))

-- ---- the float 2 ^ -by
module _ (f : Format) (by : ℕ) (B : by ≤ 64) where
  abbrev power_bits : ℕ
  power_bits = (emax f - by) * hid f

  abbrev rise : ℕ
  rise = emax f - by - 1

  rise_in : suc rise < ones f
  rise_in = omega (arith, reach_in f, field_is f)

  same : suc rise * hid f + 0 ≡ power_bits
  same = ap (λ (z : ℕ). z * hid f + 0) {x = suc rise} {y = emax f - by} (omega (arith, reach_in f)) ∙ omega arith

  pub power_not_nan : T (not (nan_bits f power_bits))
  power_not_nan = subst (λ (b : ℕ). T (not (nan_bits f b))) same (packed_not_nan f rise 0 rise_in (pow_pos (prec f - 1)))

  power_value : HasValue (of_bits f power_bits) false ((hid f + 0) * 2 ^ rise) (2 ^ low f)
  power_value = subst (λ (b : ℕ). HasValue (of_bits f b) false ((hid f + 0) * 2 ^ rise) (2 ^ low f)) same (packed_value f rise 0 rise_in (pow_pos (prec f - 1)))

  power_is : (hid f + 0) * 2 ^ rise * 2 ^ by ≡ 2 ^ low f
  power_is =
      let h : (hid f + 0) * 2 ^ rise ≡ 2 ^ (prec f - 1 + rise) = ap (λ (z : ℕ). z * 2 ^ rise) {x = hid f + 0} {y = hid f} (omega arith) ∙ sym (pow-add 2 (prec f - 1) rise) in
      ap (λ (z : ℕ). z * 2 ^ by) h ∙ sym (pow-add 2 (prec f - 1 + rise) by)
      ∙ ap (λ (z : ℕ). 2 ^ z) {x = prec f - 1 + rise + by} {y = low f} (omega (arith, low_is f, digits_in f, reach_in f))

  none_times : (y : Float) (a c : ℕ) → HasValue y false a c → mul f (fin false 0 (pos 0)) y ≡ round f false 0 (2 ^ by)
  unfolding mul
  none_times nan a c v = absurd v
  none_times (inf s) a c v = absurd v
  none_times (fin true m e) a c v = absurd (true≢false v.0)
  none_times (fin false m e) a c v =
      round_same f false (0 * 1 * (m * lib.Ieee.up e)) (1 * lib.Ieee.down e) 0 (2 ^ by) (omega (arith, lib.Ieee.Fits.down_pos e)) (pow_pos by) (omega arith)

  some_times : (s : Bool) (n : ℕ) → 0 < n → n < 2 ^ 64 → mul f (round f s n 1) (of_bits f power_bits) ≡ round f s n (2 ^ by)
  some_times s n some N =
      let h = (hid f + 0) * 2 ^ rise in
      let w = grid f n (2 ^ by) in
      let l = 2 ^ low f in
      let L = pow_pos (low f) in
      let e : w * 2 ^ by * h * l ≡ w * (l * l) =
      ap (λ (z : ℕ). z * l) (mul_assoc w (2 ^ by) h ∙ ap (λ (z : ℕ). w * z) (mul_comm (2 ^ by) h ∙ power_is)) ∙ mul_assoc w l l in
      times_is f (round f s n 1) (of_bits f power_bits) s (w * 2 ^ by) h l l L L (whole_value f n by N B s some) power_value
      ∙ round_same f s (w * 2 ^ by * h) (l * l) w l (mul-pos L L) L e
      ∙ same_value f (round f s w l) (round f s n (2 ^ by)) s w (round-fits f s w l) (round-fits f s n (2 ^ by)) (grid_value f n by N B s) (over_value f n by N B s)

  pub quotient_is : (n : ℕ) → n < 2 ^ 64 → mul f (of_int f (pos n)) (of_bits f power_bits) ≡ round f false n (2 ^ by)
  unfolding of_int
  quotient_is zero N = ap (λ (z : Float). mul f z (of_bits f power_bits)) (round_none f) ∙ none_times (of_bits f power_bits) _ _ power_value
  quotient_is (suc n) N = some_times false (suc n) (omega arith) N

  -- the float nearest to a whole number, times the power
  pub product_is : (z : ℤ) → unsigned_abs z < 2 ^ 64 → mul f (of_int f z) (of_bits f power_bits) ≡ nearest_float f z by
  unfolding of_int
  product_is (pos n) N = quotient_is n N
  product_is (negsuc n) N = some_times true (suc n) (omega arith) N

-- ---- the magnitude of a word
magnitude_below : (s : Bool) (n : ℕ) (x : ℤ) → 0 < n → InRange s n x → unsigned_abs x < 2 ^ n
magnitude_below true n x N h =
    let two : 2 ^ n ≡ 2 * 2 ^ (n - 1) = ap (λ (z : ℕ). 2 ^ z) {x = n} {y = suc (n - 1)} (omega arith) ∙ pow-succ' 2 (n - 1) in
    let some = pow_pos (n - 1) in
    omega (arith, ints, h.0, h.1)
magnitude_below false n x N h = let some = pow_pos n in omega (arith, ints, h.0, h.1)

pub width_in : (n g : ℕ) → IsWidth n → g ≤ n → g ≤ 64
width_in n g w G = grind arith

pub word_below : (s : Bool) (n : ℕ) (x : ℤ) → IsWidth n → InRange s n x → unsigned_abs x < 2 ^ 64
word_below s n x w h = lt_of_lt_of_le (magnitude_below s n x (width_pos n w) h) (pow_mono {i = n} {j = 64} (width_in n n w (le_refl n)))
