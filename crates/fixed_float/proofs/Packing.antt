-- The pattern of the nearest float.
use Rattle.std.proofs.Common.{◌≡◌, ◌+◌, ◌-◌, ◌*◌, ◌/◌, ◌%◌, ◌^◌, ◌<◌, ◌≤◌, ℕ, suc, Bool, false, ap, sym, ◌∙◌, subst, arith}
use native.Mathlib.Nat.{le_antisymm, le_trans, lt_of_le_of_lt, lt_of_lt_of_le, lt_of_not-le, not-le_of_lt, mul_assoc, mul-pos, mul-le-mul_right, mul-lt-mul_of_pos_right, mul-div_cancel, le-div_iff_mul-le, div-lt_iff_lt-mul}
use Prim.Native.Nat.{compare}
use lib.Pow.{pow-add, pow-lt, pow_pos, pow_mono}
use Rattle.std.specs.Float.{Float, Format}
use lib.Ieee.{emax, hid, low, of_bits, ones, prec, round, size, units}
use lib.Ieee.Bits.{of_bits-fits}
use lib.Ieee.Digits.{size-le, size-lt}
use lib.Ieee.Exact.{HasValue, units_val}
use lib.Ieee.Fits.{nearest-le, round-fits, round_is}
use lib.Ieee.Nearest.{closest, closest_same, nearest-ge}
use Rattle.fixed_float.specs.Patterns.{field_of, fraction_of, least_floats}
use Rattle.fixed_float.proofs.Fields.{below_top, pattern_value, read_back}
use Rattle.fixed_float.proofs.Formats.{digits_in, field_room, least_in, reach_in, same_value, twice_hid}

-- ---- digits
size-gt : (n j : ℕ) → 2 ^ j ≤ n → j < size n
size-gt n j h = lt_of_not-le (λ (g : size n ≤ j). not-le_of_lt (lt_of_lt_of_le (size-lt n) (pow_mono g)) h)

pub size_is : (n j : ℕ) → 2 ^ j ≤ n → n < 2 ^ suc j → size n ≡ suc j
size_is n j lo hi = le_antisymm (size-le n (suc j) hi) (size-gt n j lo)

power_at : (a b : ℕ) → a ≡ b → 2 ^ a ≡ 2 ^ b
power_at a b e = ap (λ (k : ℕ). 2 ^ k) e

-- n * 2 ^ i over 2 ^ g, where i is g or more
cut : (n i g : ℕ) → g ≤ i → n * 2 ^ i / 2 ^ g ≡ n * 2 ^ (i - g)
cut n i g h =
    let e : n * 2 ^ i ≡ n * 2 ^ (i - g) * 2 ^ g = ap (λ (z : ℕ). n * z) (power_at i (i - g + g) (omega arith) ∙ pow-add 2 (i - g) g) ∙ sym (mul_assoc n (2 ^ (i - g)) (2 ^ g)) in
    ap (λ (z : ℕ). z / 2 ^ g) e ∙ mul-div_cancel (n * 2 ^ (i - g)) (pow_pos g)

pub moved_lo : (n j i : ℕ) → 2 ^ j ≤ n → 2 ^ (j + i) ≤ n * 2 ^ i
moved_lo n j i h = subst (λ (z : ℕ). z ≤ n * 2 ^ i) (sym (pow-add 2 j i)) (mul-le-mul_right (2 ^ i) h)

moved_hi : (n j i : ℕ) → n < 2 ^ j → n * 2 ^ i < 2 ^ (j + i)
moved_hi n j i h = subst (λ (z : ℕ). n * 2 ^ i < z) (sym (pow-add 2 j i)) (mul-lt-mul_of_pos_right h (pow_pos i))

-- ---- n / 2 ^ g to the digits of the format, where n has a digit more than j
module _ (f : Format) (n j a g : ℕ) (lead : a + suc j ≡ 64) (lo : 2 ^ j ≤ n) (hi : n < 2 ^ suc j) (G : g ≤ 64) where
  abbrev pub spare : ℕ
  spare = 64 - prec f

  abbrev pub dropped : ℕ
  dropped = low f + spare - a - g

  abbrev pub significand : ℕ
  significand = closest (n * 2 ^ a) (2 ^ spare)

  drops : size (n * 2 ^ low f / 2 ^ g) - prec f ≡ dropped
  drops =
      let i = low f - g in
      let is : size (n * 2 ^ i) ≡ suc (j + i) =
      size_is (n * 2 ^ i) (j + i) (moved_lo n j i lo) (subst (λ (z : ℕ). n * 2 ^ i < 2 ^ z) {x = suc j + i} {y = suc (j + i)} (omega arith) (moved_hi n (suc j) i hi)) in
      ap (λ (z : ℕ). size z - prec f) (cut n (low f) g (omega (arith, least_in f))) ∙ ap (λ (z : ℕ). z - prec f) is ∙ omega (arith, least_in f, digits_in f)

  pub keeps : closest (n * 2 ^ low f) (2 ^ g * 2 ^ dropped) ≡ significand
  keeps =
      let p : 2 ^ low f * 2 ^ spare ≡ 2 ^ a * (2 ^ g * 2 ^ dropped) =
      sym (pow-add 2 (low f) spare)
      ∙ power_at (low f + spare) (a + (g + dropped)) (omega (arith, least_in f, digits_in f))
      ∙ pow-add 2 a (g + dropped)
      ∙ ap (λ (z : ℕ). 2 ^ a * z) (pow-add 2 g dropped) in
      closest_same (n * 2 ^ low f) (2 ^ g * 2 ^ dropped) (n * 2 ^ a) (2 ^ spare) (mul-pos (pow_pos g) (pow_pos dropped)) (pow_pos spare)
      (mul_assoc n (2 ^ low f) (2 ^ spare) ∙ ap (λ (z : ℕ). n * z) p ∙ sym (mul_assoc n (2 ^ a) (2 ^ g * 2 ^ dropped)))

  abbrev quotient : ℕ
  quotient = n * 2 ^ a / 2 ^ spare

  pub at_most : significand ≤ 2 ^ prec f
  at_most =
      let h : n * 2 ^ a < 2 ^ (prec f + spare) = subst (λ (z : ℕ). n * 2 ^ a < 2 ^ z) {x = suc j + a} {y = prec f + spare} (omega (arith, digits_in f)) (moved_hi n (suc j) a hi) in
      let q : quotient < 2 ^ prec f = (div-lt_iff_lt-mul (pow_pos spare)).1 (subst (λ (z : ℕ). n * 2 ^ a < z) (pow-add 2 (prec f) spare) h) in
      le_trans (nearest-le quotient (compare (n * 2 ^ a % 2 ^ spare * 2) (2 ^ spare))) q

  pub at_least : hid f ≤ significand
  at_least =
      let h : 2 ^ (prec f - 1 + spare) ≤ n * 2 ^ a = subst (λ (z : ℕ). 2 ^ z ≤ n * 2 ^ a) {x = j + a} {y = prec f - 1 + spare} (omega (arith, digits_in f)) (moved_lo n j a lo) in
      let q : hid f ≤ quotient = (le-div_iff_mul-le (pow_pos spare)).1 (subst (λ (z : ℕ). z ≤ n * 2 ^ a) (pow-add 2 (prec f - 1) spare) h) in
      le_trans q (nearest-ge quotient (compare (n * 2 ^ a % 2 ^ spare * 2) (2 ^ spare)))

  pub in_field : dropped * hid f + significand ≤ ones f * hid f
  in_field =
      let r : (dropped + 2) * hid f ≤ ones f * hid f = mul-le-mul_right (hid f) (omega (arith, field_room f)) in
      omega (arith, r, at_most, twice_hid f)

  rounds : round f false n (2 ^ g) ≡ units f false significand dropped
  rounds =
      round_is f false n (2 ^ g)
      ∙ ap (λ (z : ℕ). units f false (closest (n * 2 ^ low f) (2 ^ g * 2 ^ z)) z) drops
      ∙ ap (λ (z : ℕ). units f false z dropped) keeps

  fine : significand * 2 ^ dropped < 2 ^ (low f + suc (emax f))
  fine =
      let l : significand * 2 ^ dropped ≤ 2 ^ (prec f + dropped) = subst (λ (z : ℕ). significand * 2 ^ dropped ≤ z) (sym (pow-add 2 (prec f) dropped)) (mul-le-mul_right (2 ^ dropped) at_most) in
      let e : prec f + dropped < low f + suc (emax f) = omega (arith, least_in f, digits_in f, reach_in f) in
      lt_of_le_of_lt l (pow-lt e)

  abbrev pub pattern : ℕ
  pattern = dropped * hid f + significand

  pub read_packed : (field_of f pattern < ones f) × (least_floats f (field_of f pattern) (fraction_of f pattern) ≡ significand * 2 ^ dropped)
  read_packed = read_back f significand dropped at_least (subst (λ (z : ℕ). significand ≤ z) (twice_hid f) at_most) (omega (arith, field_room f))

  value : HasValue (of_bits f pattern) false (significand * 2 ^ dropped) (2 ^ low f)
  value =
      subst (λ (z : ℕ). HasValue (of_bits f pattern) false z (2 ^ low f)) read_packed.1
      (subst (λ (s : Bool). HasValue (of_bits f pattern) s (least_floats f (field_of f pattern) (fraction_of f pattern)) (2 ^ low f)) (below_top f pattern in_field) (pattern_value f pattern read_packed.0))

  pub packed : of_bits f pattern ≡ round f false n (2 ^ g)
  packed =
      same_value f (of_bits f pattern) (round f false n (2 ^ g)) false (significand * 2 ^ dropped) (of_bits-fits f pattern) (round-fits f false n (2 ^ g)) value
      (subst (λ (y : Float). HasValue y false (significand * 2 ^ dropped) (2 ^ low f)) (sym rounds) (units_val f false significand dropped fine))
