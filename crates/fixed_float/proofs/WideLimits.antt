-- A float between the least number of a word of 64 bits and the one beyond its greatest, and one that is not.
use Rattle.std.proofs.Common.{◌≡◌, ◌+◌, ◌-◌, ◌*◌, ◌^◌, ◌<◌, ◌≤◌, ◌<ℤ◌, ◌≤ℤ◌, ◌+ℤ◌, ℕ, ℤ, suc, Bool, true, false, ◌&&◌, pos, unsigned_abs, refl, ap, sym, not, ◌∙◌, subst, arith, inl, inr, T, true≢false}
use native.Mathlib.Nat.{add-mul, lt_of_lt_of_le, lt_of_mul-lt-mul_right, mul_assoc, mul-le-mul_right, mul-lt-mul_of_pos_right}
use Rattle.std.proofs.lemmas.Bool.{cases_lt}
use Rattle.std.proofs.lemmas.Int.{ints}
use lib.Pow.{pow-add, pow_mono, pow_pos, shl_lt}
use Rattle.std.specs.Bool.{passes}
use Rattle.std.specs.Prelude.{Some, int_lt, if◌then◌else◌}
use Rattle.std.specs.Float.{Float, NotNan, binary64, nan, inf, fin, float_is_finite}
use Rattle.std.proofs.lemmas.Float.{le_of_not-lt, le_right}
use lib.Ieee.{fits, is_nan, le, lt}
use lib.Ieee.Exact.{HasValue}
use lib.Ieee.Nearest.{closest}
use Rattle.fixed_word.specs.Format.{InRange, IsWidth, highest, lowest, with_sign, wrap}
use Rattle.fixed_word.specs.declared.rounding.Rounding.TheVariants.{Even}
use Rattle.fixed_word.proofs.Standings.{clamp_same}
use Rattle.fixed_word.proofs.Wraps.{narrower, wrap_alike, wrap_same}
use Rattle.fixed_convert.proofs.Factors.{rounded_magnitude}
use Rattle.fixed_float.specs.Rows.{saturated_float, units_of_float}
use Rattle.fixed_float.specs.inside.Parts.{AreParts}
use Rattle.fixed_float.specs.inside.Small.{HasBits, IsMedium}
use Rattle.fixed_float.specs.declared.parts.Parts.{Parts}
use Rattle.fixed_float.proofs.Centre.{is_number}
use Rattle.fixed_float.proofs.Ends.{held_row}
use Rattle.fixed_float.proofs.Limits.{at_least, before_high, clamp_high, clamp_low, end_value, k, least_from, less_from, lt_is, not_below, q, risen, row, scaled_above, scaled_below, at_most, size_within}
use Rattle.fixed_float.proofs.Quick.{both_true}
use Rattle.fixed_float.proofs.Roundings.{closest_stepped}
use Rattle.fixed_float.proofs.Rows.{parts_exist}
use Rattle.fixed_float.proofs.TwoSums.{near_is}

-- ---- a float of at least 2 ^ 53 units is a whole number of them
pub closest_below : (d j M : ℕ) → d < 2 ^ 53 → 2 ^ 53 < M → d * 2 ^ j < M * 2 ^ 1074 → closest (d * 2 ^ j) (2 ^ 1074) < M
closest_below d j M D deep l =
    let U = pow_pos 1074 in
    let h = near_is (d * 2 ^ j) (2 ^ 1074) U in
    let c = closest (d * 2 ^ j) (2 ^ 1074) in
    elim (cases_lt 1074 j) [
      | inl g ↦
          let m = d * 2 ^ (j - 1074) in
          let e : d * 2 ^ j ≡ m * 2 ^ 1074 =
          ap (λ (z : ℕ). d * z) (ap (λ (z : ℕ). 2 ^ z) {x = j} {y = j - 1074 + 1074} (omega (arith, g)) ∙ pow-add 2 (j - 1074) 1074) ∙ sym (mul_assoc d (2 ^ (j - 1074)) (2 ^ 1074)) in
          let a : m < M = lt_of_mul-lt-mul_right (2 ^ 1074) (subst (λ (z : ℕ). z < M * 2 ^ 1074) e l) in
          let b : c < m + 1 = lt_of_mul-lt-mul_right (2 ^ 1074) (omega (arith, h.above, e, add-mul m 1 (2 ^ 1074), U)) in
          omega (arith, a, b)
      | inr g ↦
          let n : d * 2 ^ j < 2 ^ 53 * 2 ^ 1074 = lt_of_lt_of_le (shl_lt 53 j D) (subst (λ (z : ℕ). 2 ^ (53 + j) ≤ z) (pow-add 2 53 1074) (pow_mono {i = 53 + j} {j = 53 + 1074} (omega (arith, g)))) in
          let b : c < 2 ^ 53 + 1 = lt_of_mul-lt-mul_right (2 ^ 1074) (omega (arith, h.above, n, U)) in
          omega (arith, b, deep)
    ]

module _ (s : Bool) (n : ℕ) (x : Float) (fit : T (fits binary64 x)) (g : ℕ) (G : g ≤ 64) (lo hi : Float) (b : Bool) (m M : ℕ) (L : HasValue lo b m (2 ^ g)) (H : HasValue hi false M (2 ^ g))
    (l : with_sign b m ≡ lowest s n) (h : pos M ≡ highest s n +ℤ pos 1) (deep : 2 ^ 53 < M) (few : m ≤ 2 ^ 64) (some : M ≤ 2 ^ 64) where
  module _ (p : Parts) (are : AreParts x p) where
    abbrev t : Bool
    t = p.below_zero

    abbrev a : ℕ
    a = p.digits * 2 ^ p.scale

    abbrev qx : ℤ
    qx = q g G x t a are.value

    row_is : units_of_float x g Even ≡ Some qx
    row_is = row g G x t a are.value

    first : lt x lo ≡ int_lt (with_sign t a) (with_sign b (m * 2 ^ k g G))
    first = lt_is x lo t b a (m * 2 ^ k g G) (2 ^ 1074) (pow_pos 1074) are.value (end_value g G lo b m L)

    second : lt x hi ≡ int_lt (with_sign t a) (pos (M * 2 ^ k g G))
    second = lt_is x hi t false a (M * 2 ^ k g G) (2 ^ 1074) (pow_pos 1074) are.value (end_value g G hi false M H)

    magnitude : qx ≡ with_sign t (closest (a * 2 ^ g) (2 ^ 1074))
    magnitude = rounded_magnitude Even t (a * 2 ^ g) (2 ^ 1074) (pow_pos 1074) ∙ ap (with_sign t) (sym (closest_stepped (a * 2 ^ g) (2 ^ 1074) t))

    size_is : a * 2 ^ g ≡ p.digits * 2 ^ (p.scale + g)
    size_is = mul_assoc p.digits (2 ^ p.scale) (2 ^ g) ∙ ap (λ (z : ℕ). p.digits * z) (sym (pow-add 2 p.scale g))

    below_beyond : with_sign t a <ℤ pos (M * 2 ^ k g G) → qx <ℤ pos M
    below_beyond r = subst (λ (z : ℤ). z <ℤ pos M) (sym magnitude) (go t r)
      where
        go : (t : Bool) → with_sign t a <ℤ pos (M * 2 ^ k g G) → with_sign t (closest (a * 2 ^ g) (2 ^ 1074)) <ℤ pos M
        go true r = omega (arith, ints, deep)
        go false r =
            let e : a < M * 2 ^ k g G = omega (arith, ints, r) in
            let f : a * 2 ^ g < M * 2 ^ 1074 = subst (λ (z : ℕ). a * 2 ^ g < z) (risen g G M) (mul-lt-mul_of_pos_right e (pow_pos g)) in
            let c = closest_below p.digits (p.scale + g) M are.digits deep (subst (λ (z : ℕ). z < M * 2 ^ 1074) size_is f) in
            let d : closest (a * 2 ^ g) (2 ^ 1074) < M = subst (λ (z : ℕ). closest z (2 ^ 1074) < M) (sym size_is) c in
            omega (arith, ints, d)

    in_range : with_sign b (m * 2 ^ k g G) ≤ℤ with_sign t a → with_sign t a <ℤ pos (M * 2 ^ k g G) → InRange s n qx
    in_range lower upper =
        let e = subst (λ (z : ℤ). z ≤ℤ qx) l (at_least g G x t a are.value b m lower) in
        let f = below_beyond upper in
        (e, omega (arith, ints, f, h))

    is_medium : with_sign b (m * 2 ^ k g G) ≤ℤ with_sign t a → with_sign t a ≤ℤ pos (M * 2 ^ k g G) → IsMedium x g
    is_medium lower upper = record {
      sign = t;
      size = a;
      value = are.value;
      medium = size_within t b (a * 2 ^ g) (m * 2 ^ 1074) (M * 2 ^ 1074) (2 ^ 64 * 2 ^ 1074) (scaled_above g G x t a are.value b m lower) (scaled_below g G x t a are.value false M upper) (mul-le-mul_right (2 ^ 1074) few) (mul-le-mul_right (2 ^ 1074) some);
    }

    below_row : lt x lo ≡ true → saturated_float s n x g Even ≡ Some (lowest s n)
    below_row e =
        let r = at_most g G x t a are.value b m (omega (arith, ints, less_from (with_sign t a) (with_sign b (m * 2 ^ k g G)) (sym first ∙ e))) in
        held_row s n x g Even qx row_is ∙ ap Some (clamp_low s n qx (subst (λ (z : ℤ). qx ≤ℤ z) l r))

    beyond_row : lt x hi ≡ false → saturated_float s n x g Even ≡ Some (highest s n)
    beyond_row e =
        let r = at_least g G x t a are.value false M (least_from (with_sign t a) (pos (M * 2 ^ k g G)) (sym second ∙ e)) in
        held_row s n x g Even qx row_is ∙ ap Some (clamp_high s n qx (omega (arith, ints, r, h)))

    pub finite_between : lt x lo ≡ false → lt x hi ≡ true → IsMedium x g × ((w : ℤ) → units_of_float x g Even ≡ Some w → InRange s n w)
    finite_between e f =
        let lower = least_from (with_sign t a) (with_sign b (m * 2 ^ k g G)) (sym first ∙ e) in
        let upper = less_from (with_sign t a) (pos (M * 2 ^ k g G)) (sym second ∙ f) in
        (is_medium lower (omega (arith, ints, upper)), λ w z. let same : qx ≡ w = some_same qx w (sym row_is ∙ z) in subst (InRange s n) same (in_range lower upper))
      where
        some_same : (u w : ℤ) → Some u ≡ Some w → u ≡ w
        some_same u w e = cc

    pub finite_beside : (c : Bool) → lt x lo ≡ c → (c ≡ false → lt x hi ≡ false) → saturated_float s n x g Even ≡ Some (if c then lowest s n else highest s n)
    finite_beside true e f = below_row e
    finite_beside false e f = beyond_row (f refl)

-- ---- the same for an infinity
pub between : (s : Bool) (n : ℕ) (x : Float) (fit : T (fits binary64 x)) (g : ℕ) (G : g ≤ 64) (lo hi : Float) (b : Bool) (m M : ℕ) (L : HasValue lo b m (2 ^ g)) (H : HasValue hi false M (2 ^ g))
    (l : with_sign b m ≡ lowest s n) (h : pos M ≡ highest s n +ℤ pos 1) (deep : 2 ^ 53 < M) (few : m ≤ 2 ^ 64) (some : M ≤ 2 ^ 64)
    → (le lo x && lt x hi) ≡ true → IsMedium x g × ((w : ℤ) → units_of_float x g Even ≡ Some w → InRange s n w)
unfolding float_is_finite is_nan le lt
between s n nan fit g G lo hi b m M L H l h deep few some r = absurd (le_right lo nan (passes _ (both_true (le lo nan) (lt nan hi) r).0))
between s n (inf true) fit g G lo hi b m M L H l h deep few some r =
    let e = (before_high lo b m (2 ^ g) L).0 in
    absurd (true≢false (sym e ∙ not_below lo (inf true) (passes _ (both_true (le lo (inf true)) (lt (inf true) hi) r).0)))
between s n (inf false) fit g G lo hi b m M L H l h deep few some r =
    absurd (true≢false (sym (both_true (le lo (inf false)) (lt (inf false) hi) r).1 ∙ (before_high hi false M (2 ^ g) H).1))
between s n (fin c d e) fit g G lo hi b m M L H l h deep few some r =
    let p = parts_exist (fin c d e) fit refl in
    let both = both_true (le lo (fin c d e)) (lt (fin c d e) hi) r in
    finite_between s n (fin c d e) fit g G lo hi b m M L H l h deep few some p.0 p.1 (not_below lo (fin c d e) (passes _ both.0)) both.1

beyond_unless : (x lo hi : Float) → NotNan x → NotNan lo → (le lo x && lt x hi) ≡ false → lt x lo ≡ false → lt x hi ≡ false
beyond_unless x lo hi num lonum r e = go (le lo x) refl r
  where
    go : (c : Bool) → le lo x ≡ c → (c && lt x hi) ≡ false → lt x hi ≡ false
    go true f r = r
    go false f r = absurd (subst T f (le_of_not-lt x lo num lonum (subst (λ (z : Bool). T (not z)) (sym e) tt)))

pub beside : (s : Bool) (n : ℕ) (x : Float) → NotNan x → (fit : T (fits binary64 x)) (g : ℕ) (G : g ≤ 64) (lo hi : Float) (b : Bool) (m M : ℕ) (L : HasValue lo b m (2 ^ g)) (H : HasValue hi false M (2 ^ g))
    (l : with_sign b m ≡ lowest s n) (h : pos M ≡ highest s n +ℤ pos 1) (deep : 2 ^ 53 < M) (few : m ≤ 2 ^ 64) (some : M ≤ 2 ^ 64)
    → (le lo x && lt x hi) ≡ false → saturated_float s n x g Even ≡ Some (if lt x lo then lowest s n else highest s n)
unfolding is_nan float_is_finite
beside s n nan num fit g G lo hi b m M L H l h deep few some r = absurd num
beside s n (inf true) num fit g G lo hi b m M L H l h deep few some r =
    ap (λ (c : Bool). Some (if c then lowest s n else highest s n)) (sym (before_high lo b m (2 ^ g) L).0)
beside s n (inf false) num fit g G lo hi b m M L H l h deep few some r =
    ap (λ (c : Bool). Some (if c then lowest s n else highest s n)) (sym (before_high lo b m (2 ^ g) L).1)
beside s n (fin c d e) num fit g G lo hi b m M L H l h deep few some r =
    let p = parts_exist (fin c d e) fit refl in
    finite_beside s n (fin c d e) fit g G lo hi b m M L H l h deep few some p.0 p.1 (lt (fin c d e) lo) refl (beyond_unless (fin c d e) lo hi num (is_number lo b m (2 ^ g) L) r)

-- ---- the ends of a word of 64 bits
pub beyond_is : (s : Bool) (n : ℕ) → n ≡ 64 → pos (suc (unsigned_abs (highest s n))) ≡ highest s n +ℤ pos 1
beyond_is true n e = omega (arith, ints)
beyond_is false n e = omega (arith, ints)

pub least_is : (s : Bool) (n : ℕ) → with_sign s (unsigned_abs (lowest s n)) ≡ lowest s n
least_is true n = omega (arith, ints)
least_is false n = refl

pub beyond_power : (s : Bool) (n : ℕ) → n ≡ 64 → (2 ^ 52 + 0) * 2 ^ (if s then 11 else 12) ≡ suc (unsigned_abs (highest s n))
beyond_power true n e = rw e refl
beyond_power false n e = rw e refl

pub least_power : (n : ℕ) → n ≡ 64 → unsigned_abs (lowest true n) ≡ 2 ^ 63
least_power n e = rw e refl

pub beyond_deep : (s : Bool) (n : ℕ) → n ≡ 64 → (2 ^ 53 < suc (unsigned_abs (highest s n))) × (suc (unsigned_abs (highest s n)) ≤ 2 ^ 64) × (unsigned_abs (lowest s n) ≤ 2 ^ 64)
beyond_deep true n e = rw e (omega arith, omega arith, omega arith)
beyond_deep false n e = rw e (omega arith, omega arith, omega arith)

pub wide_is : (n : ℕ) → IsWidth n → 32 < n → n ≡ 64
wide_is n w h = grind arith

pub word_of_bits : (s : Bool) (n : ℕ) (x : Float) (g : ℕ) (bits : ℕ) → n ≡ 64 → (r : HasBits x g bits) → InRange s n r.whole → Some (wrap s n (pos bits)) ≡ saturated_float s n x g Even
word_of_bits s n x g bits e r i =
    let N : 0 < n = omega (arith, e) in
    ap Some (wrap_alike s n (pos bits) r.whole N (narrower n 64 (pos bits) r.whole (omega (arith, e)) r.alike) ∙ wrap_same s n r.whole N i ∙ sym (clamp_same s n r.whole i))
    ∙ sym (held_row s n x g Even r.whole r.row)

module _ (s : Bool) (n : ℕ) (long : n ≡ 64) (x : Float) (fit : T (fits binary64 x)) (g : ℕ) (G : g ≤ 64) (lo hi : Float) (L : HasValue lo s (unsigned_abs (lowest s n)) (2 ^ g)) (H : HasValue hi false (suc (unsigned_abs (highest s n))) (2 ^ g)) where
  pub held_between : (le lo x && lt x hi) ≡ true → IsMedium x g × ((w : ℤ) → units_of_float x g Even ≡ Some w → InRange s n w)
  held_between r =
      let d = beyond_deep s n long in
      between s n x fit g G lo hi s (unsigned_abs (lowest s n)) (suc (unsigned_abs (highest s n))) L H (least_is s n) (beyond_is s n long) d.0 d.2 d.1 r

  pub held_beside : NotNan x → (le lo x && lt x hi) ≡ false → saturated_float s n x g Even ≡ Some (if lt x lo then lowest s n else highest s n)
  held_beside num r =
      let d = beyond_deep s n long in
      beside s n x num fit g G lo hi s (unsigned_abs (lowest s n)) (suc (unsigned_abs (highest s n))) L H (least_is s n) (beyond_is s n long) d.0 d.2 d.1 r
