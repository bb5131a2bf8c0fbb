-- The row of a float, by its parts, and the parts, by its bits.
use Rattle.std.proofs.Common.{◌≡◌, ◌≢◌, ◌+◌, ◌-◌, ◌*◌, ◌/◌, ◌%◌, ◌^◌, ◌<◌, ◌≤◌, ℕ, ℤ, zero, suc, Bool, true, false, pos, T, nat_eq, leb, refl, ap, sym, ◌∙◌, subst, arith, inl, inr, le-leb}
use Rattle.std.specs.Prelude.{Some, None}
use borrow.Author.Tests.{lt-leb}
use mathlib.Core.Bool.{true≢false}
use native.Mathlib.Nat.{div-lt_iff_lt-mul, mod-lt, mul-pos, mul_assoc, mul_comm, mul_right_comm, zero-lt-suc}
use lib.Pow.{pow-add, pow_pos}
use Rattle.std.proofs.lemmas.Bool.{cases_lt}
use Rattle.std.specs.Float.{Float, Format, binary64, nan, inf, fin, float_is_finite}
use lib.Ieee.{down, fits, hid, lt, of_bits, ones, prec, to_bits, top, up}
use lib.Ieee.Bits.{of_bits-to_bits, to_bits-lt}
use lib.Ieee.Exact.{HasValue}
use lib.Ieee.Fits.{down_pos}
use Rattle.fixed_word.specs.Format.{with_sign}
use Rattle.fixed_word.specs.declared.rounding.Rounding.{Rounding}
use Rattle.fixed_kernel.specs.Rounded.{rounded}
use Rattle.fixed_float.specs.Patterns.{field_of, fraction_of, least_floats}
use Rattle.fixed_float.specs.Rows.{units_of_float}
use Rattle.fixed_float.specs.inside.Parts.{AreParts}
use Rattle.fixed_float.specs.declared.parts.Parts.{Parts}
use Rattle.fixed_float.proofs.Fields.{pattern_infinite, pattern_nan, pattern_value}
use Rattle.fixed_float.proofs.Roundings.{rounded_same, rounded_whole}

-- ---- a float of the size a over c
pub row_of_value : (x : Float) (b : Bool) (a c g : ℕ) (k : Rounding) → 0 < c → HasValue x b a c
    → units_of_float x g k ≡ Some (rounded (with_sign b (a * 2 ^ g)) (pos c) k)
row_of_value nan b a c g k C h = absurd h
row_of_value (inf s) b a c g k C h = absurd h
row_of_value (fin s m e) b a c g k C h =
    let v : m * up e * 2 ^ g * c ≡ a * 2 ^ g * down e =
    mul_right_comm (m * up e) (2 ^ g) c ∙ ap (λ (z : ℕ). z * 2 ^ g) h.1 ∙ mul_right_comm a (down e) (2 ^ g) in
    ap Some
    (ap (λ (t : Bool). rounded (with_sign t (m * up e * 2 ^ g)) (pos (down e)) k) h.0
    ∙ rounded_same k b (m * up e * 2 ^ g) (down e) (a * 2 ^ g) c (down_pos e) C v)

pub row_of_parts : (x : Float) (p : Parts) (g : ℕ) (k : Rounding) → AreParts x p
    → units_of_float x g k ≡ Some (rounded (with_sign p.below_zero (p.digits * 2 ^ (p.scale + g))) (pos (2 ^ 1074)) k)
row_of_parts x p g k h =
    let e : p.digits * 2 ^ p.scale * 2 ^ g ≡ p.digits * 2 ^ (p.scale + g) =
    mul_assoc p.digits (2 ^ p.scale) (2 ^ g) ∙ ap (λ (z : ℕ). p.digits * z) (sym (pow-add 2 p.scale g)) in
    row_of_value x p.below_zero (p.digits * 2 ^ p.scale) (2 ^ 1074) g k (pow_pos 1074) h.value
    ∙ ap (λ (z : ℕ). Some (rounded (with_sign p.below_zero z) (pos (2 ^ 1074)) k)) e

-- a whole number of units
pub row_of_whole : (x : Float) (b : Bool) (n g : ℕ) (k : Rounding) → HasValue x b n (2 ^ g) → units_of_float x g k ≡ Some (with_sign b n)
row_of_whole x b n g k h = row_of_value x b n (2 ^ g) g k (pow_pos g) h ∙ ap Some (rounded_whole k b n (2 ^ g) (pow_pos g))

pub no_row : (x : Float) (g : ℕ) (k : Rounding) → float_is_finite x ≡ false → units_of_float x g k ≡ None
unfolding float_is_finite
no_row nan g k h = refl
no_row (inf s) g k h = refl
no_row (fin s m e) g k h = absurd (true≢false h)

pub some_row : (x : Float) (g : ℕ) (k : Rounding) → float_is_finite x ≡ true → units_of_float x g k ≡ None → ⊥
unfolding float_is_finite
some_row nan g k h e = true≢false (sym h)
some_row (inf s) g k h e = true≢false (sym h)
some_row (fin s m e) g k h q = cc

-- whether an infinity lies below 0.0
pub infinity_sign : (x : Float) (s : Bool) → x ≡ inf s → lt x (of_bits binary64 0) ≡ s
unfolding lt of_bits
infinity_sign x s e = ap (λ (y : Float). lt y (of_bits binary64 0)) e

-- ---- by its bits
field_in : (f : Format) (b : ℕ) → field_of f b ≤ ones f
field_in f b =
    let l : b % top f < suc (ones f) * hid f = omega (arith, mod-lt b (mul-pos (pow_pos (prec f - 1)) (zero-lt-suc (ones f))), mul_comm (hid f) (suc (ones f))) in
    let q : field_of f b < suc (ones f) = (div-lt_iff_lt-mul (pow_pos (prec f - 1))).1 l in
    omega arith

finite_field : (b : ℕ) (s : Bool) (m : ℕ) (e : ℤ) → of_bits binary64 b ≡ fin s m e → field_of binary64 b ≢ ones binary64
finite_field b s m e p h = go (fraction_of binary64 b) refl
  where
    go : (t : ℕ) → fraction_of binary64 b ≡ t → ⊥
    go zero z = let q : inf (leb (top binary64) b) ≡ fin s m e = sym (pattern_infinite binary64 b h z) ∙ p in cc
    go (suc t) z = let q : nan ≡ fin s m e = sym (pattern_nan binary64 b h (λ n. let c : suc t ≡ 0 = sym z ∙ n in omega arith)) ∙ p in cc

value_of_bits : (x : Float) → T (fits binary64 x) → float_is_finite x ≡ true → let b = to_bits binary64 x in
    (field_of binary64 b < ones binary64) × HasValue x (leb (top binary64) b) (least_floats binary64 (field_of binary64 b) (fraction_of binary64 b)) (2 ^ 1074)
unfolding float_is_finite
value_of_bits nan f h = absurd (true≢false (sym h))
value_of_bits (inf s) f h = absurd (true≢false (sym h))
value_of_bits (fin s m e) f h =
    let b = to_bits binary64 (fin s m e) in
    let back = of_bits-to_bits binary64 (fin s m e) f in
    let n = finite_field b s m e back in
    let l : field_of binary64 b < ones binary64 = omega (arith, field_in binary64 b, n) in
    (l, subst (λ (y : Float). HasValue y (leb (top binary64) b) (least_floats binary64 (field_of binary64 b) (fraction_of binary64 b)) (2 ^ 1074)) back (pattern_value binary64 b l))

sign_bit : (b : ℕ) → b < 2 ^ 64 → leb (2 ^ 63) b ≡ nat_eq (b / 2 ^ 63) 1
sign_bit b h = elim (cases_lt b (2 ^ 63)) [
  | inl l ↦ let z : b / 2 ^ 63 ≡ 0 = omega arith in rw (z, lt-leb (2 ^ 63) b l) refl
  | inr g ↦ let o : b / 2 ^ 63 ≡ 1 = omega arith in rw (o, le-leb (2 ^ 63) b g) refl
]

low_size : (x t : ℕ) → x ≡ 0 → least_floats binary64 x t ≡ t * 2 ^ 0
low_size zero t e = omega arith
low_size (suc x) t e = absurd (omega arith)

high_size : (x t : ℕ) → x ≢ 0 → least_floats binary64 x t ≡ (t + 2 ^ 52) * 2 ^ (x - 1)
high_size zero t n = absurd (n refl)
high_size (suc x) t n = let e : suc x - 1 ≡ x = omega arith in let s : 2 ^ 52 + t ≡ t + 2 ^ 52 = omega arith in rw (e, s) refl

module _ (x : Float) (f : T (fits binary64 x)) (h : float_is_finite x ≡ true) where
  abbrev bits : ℕ
  bits = to_bits binary64 x

  below : bits < 2 ^ 64
  below = to_bits-lt binary64 x f

  apart : (d k : ℕ) → d < 2 ^ 53 → k < 2 ^ 11 → least_floats binary64 (field_of binary64 bits) (fraction_of binary64 bits) ≡ d * 2 ^ k
      → AreParts x (record { below_zero = nat_eq (bits / 2 ^ 63) 1; digits = d; scale = k })
  apart d k D K e = record {
    value = subst (λ (s : Bool). HasValue x s (d * 2 ^ k) (2 ^ 1074)) (sign_bit bits below)
        (subst (λ (n : ℕ). HasValue x (leb (2 ^ 63) bits) n (2 ^ 1074)) e (value_of_bits x f h).1);
    digits = D;
    scale = K;
  }

  pub apart_low : bits % 2 ^ 63 / 2 ^ 52 ≡ 0 → AreParts x (record { below_zero = nat_eq (bits / 2 ^ 63) 1; digits = bits % 2 ^ 63 % 2 ^ 52; scale = 0 })
  apart_low z =
      let t : fraction_of binary64 bits ≡ bits % 2 ^ 63 % 2 ^ 52 = omega arith in
      apart (bits % 2 ^ 63 % 2 ^ 52) 0 (omega arith) (omega arith) (low_size (field_of binary64 bits) (fraction_of binary64 bits) z ∙ ap (λ (n : ℕ). n * 2 ^ 0) t)

  pub apart_high : bits % 2 ^ 63 / 2 ^ 52 ≢ 0
      → AreParts x (record { below_zero = nat_eq (bits / 2 ^ 63) 1; digits = bits % 2 ^ 63 % 2 ^ 52 + 2 ^ 52; scale = bits % 2 ^ 63 / 2 ^ 52 - 1 })
  apart_high n =
      let t : fraction_of binary64 bits ≡ bits % 2 ^ 63 % 2 ^ 52 = omega arith in
      apart (bits % 2 ^ 63 % 2 ^ 52 + 2 ^ 52) (bits % 2 ^ 63 / 2 ^ 52 - 1) (omega arith) (omega arith)
      (high_size (field_of binary64 bits) (fraction_of binary64 bits) n ∙ ap (λ (k : ℕ). (k + 2 ^ 52) * 2 ^ (bits % 2 ^ 63 / 2 ^ 52 - 1)) t)

pub parts_exist : (x : Float) → T (fits binary64 x) → float_is_finite x ≡ true → (p : Parts) × AreParts x p
parts_exist x f h = go (to_bits binary64 x % 2 ^ 63 / 2 ^ 52) refl
  where
    go : (k : ℕ) → to_bits binary64 x % 2 ^ 63 / 2 ^ 52 ≡ k → (p : Parts) × AreParts x p
    go zero e = (_, apart_low x f h e)
    go (suc k) e = (_, apart_high x f h (λ z. let c : suc k ≡ 0 = sym e ∙ z in omega arith))
