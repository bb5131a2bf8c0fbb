-- A float of at most 50 bits, rounded by its sum with 1.5 * 2 ^ 52.
use Rattle.std.proofs.Common.{◌≡◌, ◌+◌, ◌-◌, ◌*◌, ◌/◌, ◌%◌, ◌^◌, ◌<◌, ◌≤◌, ℕ, suc, Bool, true, false, ◌&&◌, true≢false, T, not, refl, ap, sym, ◌∙◌, subst, arith, lit<, lit≤, if◌then◌else◌}
use Rattle.std.specs.Prelude.{Some}
use native.Mathlib.Nat.{eq_of_mul-eq-mul_right, div-lt_iff_lt-mul, le_of_mul-le-mul_right, le_trans, lt_of_le_of_lt, mul_assoc, mul_comm, mul-le-mul_right, mul-pos}
use lib.Pow.{pow-add, pow_pos}
use Rattle.std.specs.Float.{Float, binary64, nan, inf, fin, float_is_finite, float_with_sign}
use lib.Ieee.{add, down, fits, is_nan, le, lt, mul, neg, of_bits, round, to_bits}
use lib.Ieee.Exact.{HasValue, round_exact}
use lib.Ieee.Fits.{down_pos, nearest-le}
use lib.Ieee.Nearest.{closest}
use lib.Ieee.Scale.{round_same}
use Prim.Native.Nat.{compare}
use Rattle.fixed_word.specs.Format.{with_sign}
use Rattle.fixed_word.specs.declared.rounding.Rounding.TheVariants.{Even}
use Rattle.fixed_float.specs.Rows.{units_of_float}
use Rattle.fixed_float.specs.inside.Parts.{AreParts}
use Rattle.fixed_float.specs.inside.Small.{IsSmall}
use Rattle.fixed_float.specs.declared.parts.Parts.{Parts}
use Rattle.fixed_float.proofs.Centre.{abs_value, bits_at, closest_minus, closest_plus, finite_under, is_number, moved, size_by_larger, size_under, value_at}
use Rattle.fixed_float.proofs.Fields.{packed_value}
use Rattle.fixed_float.proofs.Products.{times_is}
use Rattle.fixed_float.proofs.Roundings.{closest_stepped}
use Rattle.fixed_convert.proofs.Factors.{rounded_magnitude}
use Rattle.fixed_float.proofs.Rows.{parts_exist, row_of_parts}

-- ---- a number of at most 2 ^ 50 units, beside the centre
pub low_enough : (n u : ℕ) → 0 < u → n ≤ 2 ^ 50 * u → (n < (2 ^ 50 + 1) * u) × (n < (2 ^ 52 + 2 ^ 51) * u) × (2 ^ 52 * u ≤ (2 ^ 52 + 2 ^ 51) * u - n) × (n + (2 ^ 52 + 2 ^ 51) * u < 2 ^ 53 * u)
low_enough n u U h = (omega arith, omega arith, omega arith, omega arith)

pub closest_small : (n u : ℕ) → 0 < u → n ≤ 2 ^ 50 * u → closest n u ≤ 2 ^ 50 + 1
closest_small n u U h =
    let q : n / u < 2 ^ 50 + 1 = (div-lt_iff_lt-mul U).1 (low_enough n u U h).0 in
    le_trans (nearest-le (n / u) (compare (n % u * 2) u)) q

abbrev pub beside : Bool → ℕ → ℕ → ℕ
beside s n u = if s then (2 ^ 52 + 2 ^ 51) * u - n else n + (2 ^ 52 + 2 ^ 51) * u

abbrev pub moved_from : Bool → ℕ → ℕ
moved_from s c = if s then 2 ^ 52 + 2 ^ 51 - c else 2 ^ 52 + 2 ^ 51 + c

-- the number and the bits of a sum whose last bit counts 2 ^ l of the least floats
unfoldable pub Beside : ℕ → Bool → ℕ → Type 0
Beside l s n =
    let y = round binary64 false (beside s n (2 ^ l)) (2 ^ 1074) in
    let c = closest n (2 ^ l) in
    HasValue y false (moved_from s c * 2 ^ l) (2 ^ 1074) × (to_bits binary64 y ≡ l * 2 ^ 52 + moved_from s c)

pub beside_is : (l : ℕ) → 1074 ≤ l → l ≤ 1200 → (s : Bool) (n : ℕ) → n ≤ 2 ^ 50 * 2 ^ l → Beside l s n
unfolding Beside
beside_is l least most false n h =
    let U = pow_pos l in
    let e = low_enough n (2 ^ l) U h in
    let c = closest_small n (2 ^ l) U h in
    let r = n + (2 ^ 52 + 2 ^ 51) * 2 ^ l in
    let q = closest_plus (2 ^ 52 + 2 ^ 51) n (2 ^ l) refl U in
    let lo : 2 ^ 52 * 2 ^ l ≤ r = le_trans e.2 (omega arith) in
    let qlo : 2 ^ 52 ≤ closest r (2 ^ l) = omega (arith, q) in
    let qhi : closest r (2 ^ l) < 2 ^ 53 = omega (arith, q, c) in
    let room : 53 + l ≤ 1074 + suc 1023 = omega (arith, most) in (
      subst (λ (z : ℕ). HasValue (round binary64 false r (2 ^ 1074)) false (z * 2 ^ l) (2 ^ 1074)) q (value_at binary64 l least room r lo e.3 qlo qhi),
      bits_at binary64 l least room r lo e.3 qlo qhi ∙ ap (λ (z : ℕ). l * 2 ^ 52 + z) q,
    )
beside_is l least most true n h =
    let U = pow_pos l in
    let e = low_enough n (2 ^ l) U h in
    let c = closest_small n (2 ^ l) U h in
    let r = (2 ^ 52 + 2 ^ 51) * 2 ^ l - n in
    let q = closest_minus (2 ^ 52 + 2 ^ 51) n (2 ^ l) refl U e.1 in
    let hi : r < 2 ^ 53 * 2 ^ l = omega (arith, e.3) in
    let qlo : 2 ^ 52 ≤ closest r (2 ^ l) = omega (arith, q, c) in
    let qhi : closest r (2 ^ l) < 2 ^ 53 = omega (arith, q) in
    let room : 53 + l ≤ 1074 + suc 1023 = omega (arith, most) in (
      subst (λ (z : ℕ). HasValue (round binary64 false r (2 ^ 1074)) false (z * 2 ^ l) (2 ^ 1074)) q (value_at binary64 l least room r e.2 hi qlo qhi),
      bits_at binary64 l least room r e.2 hi qlo qhi ∙ ap (λ (z : ℕ). l * 2 ^ 52 + z) q,
    )

-- the bits of the sum at 2 ^ 1074
bits_beside : (s : Bool) (c : ℕ) → c ≤ 2 ^ 50 + 1 → 1074 * 2 ^ 52 + moved_from s c ≡ (if s then 4843621399236968448 - c else 4843621399236968448 + c)
bits_beside true c h = omega arith
bits_beside false c h = omega arith

pub both_true : (a b : Bool) → (a && b) ≡ true → (a ≡ true) × (b ≡ true)
both_true true b h = (refl, h)
both_true false b h = absurd (true≢false (sym h))

-- y is moved by c from the centre, up or down, where c is how many units x is, rounded
pub record IsMoved (x : Float) (g : ℕ) (y : Float) : Type 0 where
  pub below : Bool
  pub size : ℕ
  pub number : T (not (is_nan y))
  pub bits : to_bits binary64 y ≡ (if below then 4843621399236968448 - size else 4843621399236968448 + size)
  pub small : size ≤ 2 ^ 51
  pub row : units_of_float x g Even ≡ Some (with_sign below size)

module _ (x : Float) (fit : T (fits binary64 x)) (g : ℕ) (G : g ≤ 64) where
  abbrev pub bound : Float
  bound = of_bits binary64 (suc (1072 - g) * 2 ^ 52 + 0)

  abbrev pub power : Float
  power = of_bits binary64 (suc (1022 + g) * 2 ^ 52 + 0)

  abbrev pub centre : Float
  centre = of_bits binary64 (suc 1074 * 2 ^ 52 + 2 ^ 51)

  bound_value : HasValue bound false ((2 ^ 52 + 0) * 2 ^ (1072 - g)) (2 ^ 1074)
  bound_value = packed_value binary64 (1072 - g) 0 (omega arith) (lit< tt)

  power_value : HasValue power false ((2 ^ 52 + 0) * 2 ^ (1022 + g)) (2 ^ 1074)
  power_value = packed_value binary64 (1022 + g) 0 (omega (arith, G)) (lit< tt)

  centre_value : HasValue centre false ((2 ^ 52 + 2 ^ 51) * 2 ^ 1074) (2 ^ 1074)
  centre_value = packed_value binary64 1074 (2 ^ 51) (lit< tt) (lit< tt)

  -- x is d * 2 ^ k of the least floats, or minus that
  module _ (p : Parts) (are : AreParts x p) where
    abbrev pub d : ℕ
    d = p.digits * 2 ^ p.scale

    abbrev pub n : ℕ
    n = p.digits * 2 ^ (p.scale + g)

    pub n_is : n ≡ d * 2 ^ g
    n_is = ap (λ (z : ℕ). p.digits * z) (pow-add 2 p.scale g) ∙ sym (mul_assoc p.digits (2 ^ p.scale) (2 ^ g))

    scaled : mul binary64 x power ≡ round binary64 p.below_zero n (2 ^ 1074)
    scaled =
        let U = pow_pos 1074 in
        let w : (2 ^ 52 + 0) * 2 ^ (1022 + g) ≡ 2 ^ 1074 * 2 ^ g = ap (λ (z : ℕ). (2 ^ 52 + 0) * z) (pow-add 2 1022 g) ∙ sym (mul_assoc (2 ^ 52 + 0) (2 ^ 1022) (2 ^ g)) in
        let e : d * ((2 ^ 52 + 0) * 2 ^ (1022 + g)) * 2 ^ 1074 ≡ n * (2 ^ 1074 * 2 ^ 1074) =
        ap (λ (z : ℕ). d * z * 2 ^ 1074) (w ∙ mul_comm (2 ^ 1074) (2 ^ g))
        ∙ ap (λ (z : ℕ). z * 2 ^ 1074) (sym (mul_assoc d (2 ^ g) (2 ^ 1074)))
        ∙ mul_assoc (d * 2 ^ g) (2 ^ 1074) (2 ^ 1074)
        ∙ ap (λ (z : ℕ). z * (2 ^ 1074 * 2 ^ 1074)) (sym n_is) in
        times_is binary64 x power p.below_zero d ((2 ^ 52 + 0) * 2 ^ (1022 + g)) (2 ^ 1074) (2 ^ 1074) U U are.value power_value
        ∙ round_same binary64 p.below_zero (d * ((2 ^ 52 + 0) * 2 ^ (1022 + g))) (2 ^ 1074 * 2 ^ 1074) n (2 ^ 1074) (mul-pos U U) U e

    pub scaled_value : n < 2 ^ (1074 + suc 1023) → HasValue (mul binary64 x power) p.below_zero n (2 ^ 1074)
    scaled_value fine =
        subst (λ (y : Float). HasValue y p.below_zero n (2 ^ 1074)) (sym scaled) (round_exact binary64 p.below_zero n (2 ^ 1074) p.digits (p.scale + g) (pow_pos 1074) are.digits fine refl)

    module _ (under : le (float_with_sign false x) bound ≡ true) where
      sized : d * 2 ^ 1074 ≤ (2 ^ 52 + 0) * 2 ^ (1072 - g) * 2 ^ 1074
      sized = size_under (float_with_sign false x) bound d (2 ^ 1074) ((2 ^ 52 + 0) * 2 ^ (1072 - g)) (2 ^ 1074) (abs_value x p.below_zero d (2 ^ 1074) are.value) bound_value under

      small : n ≤ 2 ^ 50 * 2 ^ 1074
      small =
          let e : (2 ^ 52 + 0) * 2 ^ (1072 - g) * 2 ^ g ≡ (2 ^ 52 + 0) * 2 ^ 1072 =
          mul_assoc (2 ^ 52 + 0) (2 ^ (1072 - g)) (2 ^ g) ∙ ap (λ (z : ℕ). (2 ^ 52 + 0) * z) (sym (pow-add 2 (1072 - g) g) ∙ ap (λ (z : ℕ). 2 ^ z) {x = 1072 - g + g} {y = 1072} (omega (arith, G))) in
          let l : d ≤ (2 ^ 52 + 0) * 2 ^ (1072 - g) = le_of_mul-le-mul_right sized (pow_pos 1074) in
          let m : d * 2 ^ g ≤ (2 ^ 52 + 0) * 2 ^ (1072 - g) * 2 ^ g = mul-le-mul_right (2 ^ g) l in
          omega (arith, n_is, m, e)

    module _ (few : n ≤ 2 ^ 50 * 2 ^ 1074) where
      sum_is : add binary64 (mul binary64 x power) centre ≡ round binary64 false (beside p.below_zero n (2 ^ 1074)) (2 ^ 1074)
      sum_is = moved binary64 (mul binary64 x power) centre p.below_zero n ((2 ^ 52 + 2 ^ 51) * 2 ^ 1074) 1074 (scaled_value (lt_of_le_of_lt few (lit< tt))) centre_value (low_enough n (2 ^ 1074) (pow_pos 1074) few).1

      pub rounded_by_sum : IsMoved x g (add binary64 (mul binary64 x power) centre)
      unfolding Beside
      rounded_by_sum =
          let b = beside_is 1074 (lit≤ tt) (lit≤ tt) p.below_zero n few in
          let c = closest n (2 ^ 1074) in record {
            below = p.below_zero;
            size = closest n (2 ^ 1074);
            number = subst (λ (y : Float). T (not (is_nan y))) (sym sum_is) (is_number _ false (moved_from p.below_zero c * 2 ^ 1074) (2 ^ 1074) b.0);
            bits = ap (to_bits binary64) sum_is ∙ b.1 ∙ bits_beside p.below_zero c (closest_small n (2 ^ 1074) (pow_pos 1074) few);
            small = le_trans (closest_small n (2 ^ 1074) (pow_pos 1074) few) (lit≤ tt);
            row = row_of_parts x p g Even are ∙ ap Some (rounded_magnitude Even p.below_zero n (2 ^ 1074) (pow_pos 1074) ∙ ap (with_sign p.below_zero) (sym (closest_stepped n (2 ^ 1074) p.below_zero)));
          }

  -- the same by the size
  same_size : (y : Float) (s t : Bool) (a b : ℕ) → HasValue y s a (2 ^ 1074) → HasValue y t b (2 ^ 1074) → a ≡ b
  same_size nan s t a b v w = absurd v
  same_size (inf r) s t a b v w = absurd v
  same_size (fin r m e) s t a b v w = eq_of_mul-eq-mul_right (down e) (down_pos e) a b (sym v.1 ∙ w.1)

  finite_by : (y : Float) (s : Bool) (a c : ℕ) → HasValue y s a c → float_is_finite y ≡ true
  unfolding float_is_finite
  finite_by nan s a c v = absurd v
  finite_by (inf r) s a c v = absurd v
  finite_by (fin r m e) s a c v = refl

  pub moved_by_sum : IsSmall x g → IsMoved x g (add binary64 (mul binary64 x power) centre)
  moved_by_sum h =
      let p = parts_exist x fit (finite_by x h.sign h.size (2 ^ 1074) h.value) in
      let e : h.size ≡ d p.0 p.1 = same_size x h.sign p.0.below_zero h.size (d p.0 p.1) h.value p.1.value in
      rounded_by_sum p.0 p.1 (omega (arith, n_is p.0 p.1, h.small, ap (λ (z : ℕ). z * 2 ^ g) e))

  small_under : le (float_with_sign false x) bound ≡ true → IsSmall x g
  small_under under =
      let p = parts_exist x fit (finite_under x bound ((2 ^ 52 + 0) * 2 ^ (1072 - g)) (2 ^ 1074) bound_value under) in
      record {
        sign = p.0.below_zero;
        size = d p.0 p.1;
        value = p.1.value;
        small = omega (arith, n_is p.0 p.1, small p.0 p.1 under);
      }

  pub small_by_larger : le (if lt x (neg x) then neg x else x) bound ≡ true → IsSmall x g
  small_by_larger h = small_under (size_by_larger x bound ((2 ^ 52 + 0) * 2 ^ (1072 - g)) (2 ^ 1074) bound_value h)
