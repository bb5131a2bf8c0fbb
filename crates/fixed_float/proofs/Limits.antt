-- A float limited to a range, and what its units are.
use Rattle.std.proofs.Common.{◌≡◌, ◌+◌, ◌-◌, ◌*◌, ◌^◌, ◌<◌, ◌≤◌, ◌<ℤ◌, ◌≤ℤ◌, ◌-ℤ◌, ℕ, ℤ, zero, suc, Bool, true, false, ◌&&◌, pos, negsuc, neg_ℤ, unsigned_abs, refl, ap, sym, ◌∙◌, subst, subst₂, arith, inl, inr, T}
use mathlib.Core.Bool.{true≢false}
use native.Mathlib.Nat.{add-mul, mul_assoc, mul-le-mul_right, mul-pos}
use Rattle.std.proofs.lemmas.Bool.{cases_lt, le-ltb, lt-ltb}
use Rattle.std.proofs.lemmas.Int.{ints}
use lib.Dec.{ltb}
use lib.Pow.{pow-add, pow_mono, pow_pos}
use Rattle.std.proofs.lemmas.Float.{le_right, lt_irrefl, lt_of_le_of_lt}
use Rattle.std.specs.Bool.{passes}
use Rattle.std.specs.Prelude.{Some, int_lt, if◌then◌else◌}
use Rattle.std.specs.Float.{Float, NotNan, binary64, nan, inf, fin, float_is_finite}
use lib.Ieee.{below, down, fits, is_nan, le, lt, round, up}
use lib.Ieee.Exact.{HasValue}
use lib.Ieee.Fits.{down_pos}
use Rattle.fixed_word.specs.Format.{Congruent, InRange, clamp, highest, lowest, with_sign, wrap}
use Rattle.fixed_word.specs.declared.rounding.Rounding.TheVariants.{Even}
use Rattle.fixed_word.proofs.Nearest.{cases_int, clamp_above, clamp_below, clamp_in_range}
use Rattle.fixed_word.proofs.Sides.{lt_no, lt_yes}
use Rattle.fixed_word.proofs.Standings.{clamp_same}
use Rattle.fixed_word.proofs.Wraps.{narrower, wrap_alike, wrap_same}
use Rattle.fixed_kernel.specs.Rounded.{rounded}
use Rattle.fixed_kernel.proofs.Alikes.{signed_times}
use Rattle.fixed_convert.proofs.Monotone.{rounded_order}
use Rattle.fixed_convert.proofs.Moves.{times_le}
use Rattle.fixed_float.specs.Rows.{nearest_float, saturated_float, units_of_float}
use Rattle.fixed_float.specs.inside.Small.{IsSmall}
use Rattle.fixed_float.proofs.Halves.{exact_at, rescaled, same_le}
use Rattle.fixed_float.proofs.Ends.{held_row}
use Rattle.fixed_float.proofs.Quick.{both_true}
use Rattle.fixed_float.proofs.Roundings.{rounded_whole}
use Rattle.fixed_float.proofs.Rows.{parts_exist, row_of_value, row_of_whole}
use Rattle.fixed_float.proofs.Sums.{left_over, right_over, same_order}

-- ---- an order of floats is one of their numbers
same_ltb : (A B D a b c : ℕ) → 0 < D → 0 < c → A * c ≡ a * D → B * c ≡ b * D → ltb A B ≡ ltb a b
same_ltb A B D a b c P C h k = elim (cases_lt a b) [
  | inl l ↦ lt-ltb A B (same_order A B D a b c P C h k l) ∙ sym (lt-ltb a b l)
  | inr l ↦ le-ltb A B (same_le B A D b a c C k h l) ∙ sym (le-ltb a b l)
]

same_below : (s t : Bool) (A B D a b c : ℕ) → 0 < D → 0 < c → A * c ≡ a * D → B * c ≡ b * D → below s A t B ≡ below s a t b
same_below false false A B D a b c P C h k = same_ltb A B D a b c P C h k
same_below false true A B D a b c P C h k = refl
same_below true false A B D a b c P C h k = same_ltb 0 (A + B) D 0 (a + b) c P C (omega arith) (add-mul A B c ∙ (λ i. h i + k i) ∙ sym (add-mul a b D))
same_below true true A B D a b c P C h k = same_ltb B A D b a c P C k h

below_is : (s t : Bool) (a b : ℕ) → below s a t b ≡ int_lt (with_sign s a) (with_sign t b)
below_is false false a b = elim (cases_lt a b) [
  | inl l ↦ lt-ltb a b l ∙ sym (lt_yes (pos a) (pos b) (omega (arith, ints)))
  | inr l ↦ le-ltb a b l ∙ sym (lt_no (pos a) (pos b) (omega (arith, ints)))
]
below_is false true a b = sym (lt_no (pos a) (neg_ℤ (pos b)) (omega (arith, ints)))
below_is true false a b = elim (cases_lt 0 (a + b)) [
  | inl l ↦ lt-ltb 0 (a + b) l ∙ sym (lt_yes (neg_ℤ (pos a)) (pos b) (omega (arith, ints)))
  | inr l ↦ le-ltb 0 (a + b) l ∙ sym (lt_no (neg_ℤ (pos a)) (pos b) (omega (arith, ints)))
]
below_is true true a b = elim (cases_lt b a) [
  | inl l ↦ lt-ltb b a l ∙ sym (lt_yes (neg_ℤ (pos a)) (neg_ℤ (pos b)) (omega (arith, ints)))
  | inr l ↦ le-ltb b a l ∙ sym (lt_no (neg_ℤ (pos a)) (neg_ℤ (pos b)) (omega (arith, ints)))
]

pub lt_is : (x y : Float) (s t : Bool) (a b c : ℕ) → 0 < c → HasValue x s a c → HasValue y t b c → lt x y ≡ int_lt (with_sign s a) (with_sign t b)
unfolding lt
lt_is nan y s t a b c C v w = absurd v
lt_is (inf r) y s t a b c C v w = absurd v
lt_is (fin r m e) nan s t a b c C v w = absurd w
lt_is (fin r m e) (inf u) s t a b c C v w = absurd w
lt_is (fin r m e) (fin u n k) s t a b c C v w =
    (λ i. below (v.0 i) (m * up e * down k) (w.0 i) (n * up k * down e))
    ∙ same_below s t (m * up e * down k) (n * up k * down e) (down e * down k) a b c (mul-pos (down_pos e) (down_pos k)) C
    (left_over (m * up e) (down e) a c (down k) v.1) (right_over (n * up k) (down k) b c (down e) w.1)
    ∙ below_is s t a b

pub less_from : (x y : ℤ) → int_lt x y ≡ true → x <ℤ y
less_from x y e = elim (cases_int x y) [
  | inl l ↦ l
  | inr l ↦ absurd (true≢false (sym e ∙ lt_no x y l))
]

pub least_from : (x y : ℤ) → int_lt x y ≡ false → y ≤ℤ x
least_from x y e = elim (cases_int x y) [
  | inl l ↦ absurd (true≢false (sym (lt_yes x y l) ∙ e))
  | inr l ↦ l
]

-- a float from lo to hi
pub not_below : (x y : Float) → T (le x y) → lt y x ≡ false
not_below x y h = go (lt y x) refl
  where
    go : (b : Bool) → lt y x ≡ b → b ≡ false
    go false e = refl
    go true e = absurd (lt_irrefl x (lt_of_le_of_lt x y x h (passes _ e)))

-- the limits one after the other
pub two_steps : (x lo hi : Float) → lt hi lo ≡ false → (if lt hi (if lt x lo then lo else x) then hi else (if lt x lo then lo else x)) ≡ (if lt x lo then lo else (if lt hi x then hi else x))
two_steps x lo hi h = go (lt x lo)
  where
    go : (b : Bool) → (if lt hi (if b then lo else x) then hi else (if b then lo else x)) ≡ (if b then lo else (if lt hi x then hi else x))
    go true = ap (λ (c : Bool). if c then hi else lo) h
    go false = refl

-- ---- what lies at an end or past it
pub ends : (s : Bool) (n : ℕ) → lowest s n ≤ℤ highest s n
ends s n = let r = clamp_in_range s n (pos 0) in omega (arith, ints, r.0, r.1)

pub clamp_low : (s : Bool) (n : ℕ) (v : ℤ) → v ≤ℤ lowest s n → clamp s n v ≡ lowest s n
clamp_low s n v h = elim (cases_int v (lowest s n)) [
  | inl l ↦ clamp_below s n v l
  | inr l ↦ let e : v ≡ lowest s n = omega (arith, ints) in clamp_same s n v (l, omega (arith, ints, ends s n)) ∙ e
]

pub clamp_high : (s : Bool) (n : ℕ) (v : ℤ) → highest s n ≤ℤ v → clamp s n v ≡ highest s n
clamp_high s n v h = elim (cases_int (highest s n) v) [
  | inl l ↦ clamp_above s n v l
  | inr l ↦ let e : v ≡ highest s n = omega (arith, ints) in clamp_same s n v (omega (arith, ints, ends s n), l) ∙ e
]

pub size_within : (t b : Bool) (A P Q K : ℕ) → with_sign b P ≤ℤ with_sign t A → with_sign t A ≤ℤ pos Q → P ≤ K → Q ≤ K → A ≤ K
size_within false b A P Q K lo hi p q = omega (arith, ints)
size_within true false A P Q K lo hi p q = omega (arith, ints)
size_within true true A P Q K lo hi p q = omega (arith, ints)

-- ---- a float in units of 2 ^ -g, beside a whole number of them
module _ (g : ℕ) (G : g ≤ 64) where
  abbrev pub k : ℕ
  k = 1074 - g

  pub U : 0 < 2 ^ 1074
  U = pow_pos 1074

  pub risen : (c : ℕ) → c * 2 ^ k * 2 ^ g ≡ c * 2 ^ 1074
  risen c = mul_assoc c (2 ^ k) (2 ^ g) ∙ ap (λ (z : ℕ). c * z) (sym (pow-add 2 k g) ∙ ap (λ (z : ℕ). 2 ^ z) {x = k + g} {y = 1074} (omega (arith, G)))

  pub end_value : (y : Float) (t : Bool) (c : ℕ) → HasValue y t c (2 ^ g) → HasValue y t (c * 2 ^ k) (2 ^ 1074)
  end_value y t c v = rescaled y t c (2 ^ g) (c * 2 ^ k) (2 ^ 1074) (pow_pos g) (risen c) v

  -- x is a over 2 ^ 1074, or minus that
  module _ (x : Float) (t : Bool) (a : ℕ) (v : HasValue x t a (2 ^ 1074)) where
    abbrev pub q : ℤ
    q = rounded (with_sign t (a * 2 ^ g)) (pos (2 ^ 1074)) Even

    pub row : units_of_float x g Even ≡ Some q
    row = row_of_value x t a (2 ^ 1074) g Even U v

    pub scaled_below : (u : Bool) (c : ℕ) → with_sign t a ≤ℤ with_sign u (c * 2 ^ k) → with_sign t (a * 2 ^ g) ≤ℤ with_sign u (c * 2 ^ 1074)
    scaled_below u c r =
        subst₂ (λ (y z : ℤ). y ≤ℤ z) (signed_times t a (2 ^ g)) (signed_times u (c * 2 ^ k) (2 ^ g) ∙ ap (with_sign u) (risen c)) (times_le (with_sign t a) (with_sign u (c * 2 ^ k)) (2 ^ g) r)

    pub scaled_above : (u : Bool) (c : ℕ) → with_sign u (c * 2 ^ k) ≤ℤ with_sign t a → with_sign u (c * 2 ^ 1074) ≤ℤ with_sign t (a * 2 ^ g)
    scaled_above u c r =
        subst₂ (λ (y z : ℤ). y ≤ℤ z) (signed_times u (c * 2 ^ k) (2 ^ g) ∙ ap (with_sign u) (risen c)) (signed_times t a (2 ^ g)) (times_le (with_sign u (c * 2 ^ k)) (with_sign t a) (2 ^ g) r)

    pub at_most : (u : Bool) (c : ℕ) → with_sign t a ≤ℤ with_sign u (c * 2 ^ k) → q ≤ℤ with_sign u c
    at_most u c r = subst (λ (z : ℤ). q ≤ℤ z) (rounded_whole Even u c (2 ^ 1074) U) (rounded_order (with_sign t (a * 2 ^ g)) (with_sign u (c * 2 ^ 1074)) (2 ^ 1074) Even U (scaled_below u c r))

    pub at_least : (u : Bool) (c : ℕ) → with_sign u (c * 2 ^ k) ≤ℤ with_sign t a → with_sign u c ≤ℤ q
    at_least u c r = subst (λ (z : ℤ). z ≤ℤ q) (rounded_whole Even u c (2 ^ 1074) U) (rounded_order (with_sign u (c * 2 ^ 1074)) (with_sign t (a * 2 ^ g)) (2 ^ 1074) Even U (scaled_above u c r))

module _ (s : Bool) (n : ℕ) (x : Float) (fit : T (fits binary64 x)) (g : ℕ) (G : g ≤ 64) (lo hi : Float) (b : Bool) (m M : ℕ) (L : HasValue lo b m (2 ^ g)) (H : HasValue hi false M (2 ^ g))
    (l : with_sign b m ≡ lowest s n) (h : pos M ≡ highest s n) (few : m ≤ 2 ^ 50) (some : M ≤ 2 ^ 50) where
  -- y is small, and its units are those of x, limited
  abbrev pub IsLimited : Float → Type 0
  IsLimited y = IsSmall y g × ((w : ℤ) → units_of_float y g Even ≡ Some w → saturated_float s n x g Even ≡ Some w)

  end_small : (y : Float) (t : Bool) (c : ℕ) → HasValue y t c (2 ^ g) → c ≤ 2 ^ 50 → IsSmall y g
  end_small y t c v r = record {
    sign = t;
    size = c * 2 ^ k g G;
    value = end_value g G y t c v;
    small = subst (λ (z : ℕ). z ≤ 2 ^ 50 * 2 ^ 1074) (sym (risen g G c)) (mul-le-mul_right (2 ^ 1074) r);
  }

  -- an end takes the place of x
  low_is : saturated_float s n x g Even ≡ Some (lowest s n) → IsLimited lo
  low_is e = (end_small lo b m L few, λ w r. e ∙ ap Some (sym l) ∙ sym (row_of_whole lo b m g Even L) ∙ r)

  high_is : saturated_float s n x g Even ≡ Some (highest s n) → IsLimited hi
  high_is e = (end_small hi false M H some, λ w r. e ∙ ap Some (sym h) ∙ sym (row_of_whole hi false M g Even H) ∙ r)

  -- x is a over 2 ^ 1074, or minus that
  module _ (t : Bool) (a : ℕ) (v : HasValue x t a (2 ^ 1074)) where
    first : lt x lo ≡ int_lt (with_sign t a) (with_sign b (m * 2 ^ k g G))
    first = lt_is x lo t b a (m * 2 ^ k g G) (2 ^ 1074) (U g G) v (end_value g G lo b m L)

    second : lt hi x ≡ int_lt (with_sign false (M * 2 ^ k g G)) (with_sign t a)
    second = lt_is hi x false t (M * 2 ^ k g G) a (2 ^ 1074) (U g G) (end_value g G hi false M H) v

    by_tests : (c d : Bool) → int_lt (with_sign t a) (with_sign b (m * 2 ^ k g G)) ≡ c → int_lt (with_sign false (M * 2 ^ k g G)) (with_sign t a) ≡ d → IsLimited (if c then lo else (if d then hi else x))
    by_tests true d e f =
        let r = at_most g G x t a v b m (omega (arith, ints, less_from (with_sign t a) (with_sign b (m * 2 ^ k g G)) e)) in
        low_is (held_row s n x g Even (q g G x t a v) (row g G x t a v) ∙ ap Some (clamp_low s n (q g G x t a v) (subst (λ (z : ℤ). q g G x t a v ≤ℤ z) l r)))
    by_tests false true e f =
        let r = at_least g G x t a v false M (omega (arith, ints, less_from (with_sign false (M * 2 ^ k g G)) (with_sign t a) f)) in
        high_is (held_row s n x g Even (q g G x t a v) (row g G x t a v) ∙ ap Some (clamp_high s n (q g G x t a v) (subst (λ (z : ℤ). z ≤ℤ q g G x t a v) h r)))
    by_tests false false e f =
        let lower = least_from (with_sign t a) (with_sign b (m * 2 ^ k g G)) e in
        let upper = least_from (with_sign false (M * 2 ^ k g G)) (with_sign t a) f in
        let r : InRange s n (q g G x t a v) = (subst (λ (z : ℤ). z ≤ℤ q g G x t a v) l (at_least g G x t a v b m lower), subst (λ (z : ℤ). q g G x t a v ≤ℤ z) h (at_most g G x t a v false M upper)) in (
          record {
            sign = t;
            size = a;
            value = v;
            small = size_within t b (a * 2 ^ g) (m * 2 ^ 1074) (M * 2 ^ 1074) (2 ^ 50 * 2 ^ 1074) (scaled_above g G x t a v b m lower) (scaled_below g G x t a v false M upper) (mul-le-mul_right (2 ^ 1074) few) (mul-le-mul_right (2 ^ 1074) some);
          },
          λ w z. held_row s n x g Even (q g G x t a v) (row g G x t a v) ∙ ap Some (clamp_same s n (q g G x t a v) r) ∙ sym (row g G x t a v) ∙ z,
        )

    pub finite_limited : IsLimited (if lt x lo then lo else (if lt hi x then hi else x))
    finite_limited = subst₂ (λ (c d : Bool). IsLimited (if c then lo else (if d then hi else x))) (sym first) (sym second) (by_tests _ _ refl refl)

-- ---- the same for an infinity
pub before_high : (y : Float) (t : Bool) (c d : ℕ) → HasValue y t c d → (lt (inf true) y ≡ true) × (lt (inf false) y ≡ false) × (lt y (inf false) ≡ true)
unfolding lt
before_high nan t c d v = absurd v
before_high (inf r) t c d v = absurd v
before_high (fin r m e) t c d v = (refl, refl, refl)

pub limited : (s : Bool) (n : ℕ) (x : Float) → NotNan x → (fit : T (fits binary64 x)) (g : ℕ) (G : g ≤ 64) (lo hi : Float) (b : Bool) (m M : ℕ) (L : HasValue lo b m (2 ^ g)) (H : HasValue hi false M (2 ^ g))
    (l : with_sign b m ≡ lowest s n) (h : pos M ≡ highest s n) (few : m ≤ 2 ^ 50) (some : M ≤ 2 ^ 50) → IsLimited s n x fit g G lo hi b m M L H l h few some (if lt x lo then lo else (if lt hi x then hi else x))
unfolding is_nan float_is_finite
limited s n nan num fit g G lo hi b m M L H l h few some = absurd num
limited s n (inf true) num fit g G lo hi b m M L H l h few some =
    let e = (before_high lo b m (2 ^ g) L).0 in
    subst (λ (c : Bool). IsLimited s n (inf true) fit g G lo hi b m M L H l h few some (if c then lo else (if lt hi (inf true) then hi else inf true))) (sym e) (low_is s n (inf true) fit g G lo hi b m M L H l h few some refl)
limited s n (inf false) num fit g G lo hi b m M L H l h few some =
    let e = (before_high lo b m (2 ^ g) L).1 in
    let f = (before_high hi false M (2 ^ g) H).2 in
    subst₂ (λ (c d : Bool). IsLimited s n (inf false) fit g G lo hi b m M L H l h few some (if c then lo else (if d then hi else inf false))) (sym e) (sym f) (high_is s n (inf false) fit g G lo hi b m M L H l h few some refl)
limited s n (fin t q e) num fit g G lo hi b m M L H l h few some =
    let p = parts_exist (fin t q e) fit refl in
    finite_limited s n (fin t q e) fit g G lo hi b m M L H l h few some p.0.below_zero (p.0.digits * 2 ^ p.0.scale) p.1.value

-- ---- the ends of a word of at most 32 bits
least_number : (s : Bool) (n : ℕ) → neg_ℤ (pos (unsigned_abs (lowest s n))) ≡ lowest s n
least_number true n = omega (arith, ints)
least_number false n = refl

most_number : (s : Bool) (n : ℕ) → pos (unsigned_abs (highest s n)) ≡ highest s n
most_number true n = refl
most_number false n = refl

least_small : (s : Bool) (n : ℕ) → n ≤ 32 → unsigned_abs (lowest s n) ≤ 2 ^ 32
least_small true n h = let p = pow_mono {i = n - 1} {j = 32} (omega arith) in omega (arith, ints)
least_small false n h = omega arith

most_small : (s : Bool) (n : ℕ) → n ≤ 32 → unsigned_abs (highest s n) ≤ 2 ^ 32
most_small true n h = let p = pow_mono {i = n - 1} {j = 32} (omega arith) in omega (arith, ints)
most_small false n h = let p = pow_mono {i = n} {j = 32} h in omega (arith, ints)

end_at : (t : Bool) (c g : ℕ) → c ≤ 2 ^ 32 → g ≤ 64 → HasValue (round binary64 t c (2 ^ g)) t c (2 ^ g)
end_at t c g h G =
    let e : c * 2 ^ 0 ≡ c = omega arith in
    subst (λ (z : ℕ). HasValue (round binary64 t z (2 ^ g)) t z (2 ^ g)) e (exact_at binary64 t c 0 g (omega arith) (omega arith) G)

least_at : (m g : ℕ) → m ≤ 2 ^ 32 → g ≤ 64 → (b : Bool) × HasValue (nearest_float binary64 (pos 0 -ℤ pos m) g) b m (2 ^ g) × (with_sign b m ≡ neg_ℤ (pos m))
least_at zero g h G = (false, end_at false 0 g h G, refl)
least_at (suc m) g h G = (true, subst (λ (z : ℤ). HasValue (nearest_float binary64 z g) true (suc m) (2 ^ g)) {x = negsuc m} {y = pos 0 -ℤ pos (suc m)} (omega (arith, ints)) (end_at true (suc m) g h G), refl)

most_at : (M g : ℕ) → M ≤ 2 ^ 32 → g ≤ 64 → HasValue (nearest_float binary64 (pos M -ℤ pos 0) g) false M (2 ^ g)
most_at M g h G = subst (λ (z : ℤ). HasValue (nearest_float binary64 z g) false M (2 ^ g)) {x = pos M} {y = pos M -ℤ pos 0} (omega (arith, ints)) (end_at false M g h G)

-- ---- what a word keeps of the limited units
pub saturated_in : (s : Bool) (n : ℕ) (x : Float) (g : ℕ) (w : ℤ) → saturated_float s n x g Even ≡ Some w → InRange s n w
saturated_in s n nan g w e = cc
saturated_in s n (inf true) g w e = let f : lowest s n ≡ w = cc in subst (InRange s n) f (omega (arith, ints), ends s n)
saturated_in s n (inf false) g w e = let f : highest s n ≡ w = cc in subst (InRange s n) f (ends s n, omega (arith, ints))
saturated_in s n (fin t m k) g w e =
    let v = rounded (with_sign t (m * up k * 2 ^ g)) (pos (down k)) Even in
    let f : clamp s n v ≡ w = cc in
    subst (InRange s n) f (clamp_in_range s n v)

module _ (s : Bool) (n : ℕ) (N : 0 < n) (narrow : n ≤ 32) (x : Float) (num : NotNan x) (fit : T (fits binary64 x)) (g : ℕ) (G : g ≤ 64) (m M : ℕ) (p : m ≡ unsigned_abs (lowest s n)) (q : M ≡ unsigned_abs (highest s n)) (lo hi y : Float)
    (L : lo ≡ nearest_float binary64 (pos 0 -ℤ pos m) g) (H : hi ≡ nearest_float binary64 (pos M -ℤ pos 0) g) (Y : y ≡ (if lt x lo then lo else (if lt hi x then hi else x))) where
  few : m ≤ 2 ^ 32
  few = subst (λ (z : ℕ). z ≤ 2 ^ 32) (sym p) (least_small s n narrow)

  some : M ≤ 2 ^ 32
  some = subst (λ (z : ℕ). z ≤ 2 ^ 32) (sym q) (most_small s n narrow)

  low : (b : Bool) × HasValue lo b m (2 ^ g) × (with_sign b m ≡ neg_ℤ (pos m))
  low = subst (λ (z : Float). (b : Bool) × HasValue z b m (2 ^ g) × (with_sign b m ≡ neg_ℤ (pos m))) (sym L) (least_at m g few G)

  pub ends_apart : lt hi lo ≡ false
  ends_apart =
      lt_is hi lo false low.0 M m (2 ^ g) (pow_pos g) (subst (λ (z : Float). HasValue z false M (2 ^ g)) (sym H) (most_at M g some G)) low.1
      ∙ lt_no (pos M) (with_sign low.0 m) (omega (arith, ints, low.2))

  pub held_by_sum : IsSmall y g × ((w : ℤ) → units_of_float y g Even ≡ Some w → saturated_float s n x g Even ≡ Some w)
  held_by_sum =
      subst (λ (z : Float). IsSmall z g × ((w : ℤ) → units_of_float z g Even ≡ Some w → saturated_float s n x g Even ≡ Some w)) (sym Y)
      (limited s n x num fit g G lo hi low.0 m M low.1 (subst (λ (z : Float). HasValue z false M (2 ^ g)) (sym H) (most_at M g some G))
      (low.2 ∙ ap (λ (z : ℕ). neg_ℤ (pos z)) p ∙ least_number s n) (ap pos q ∙ most_number s n) (omega (arith, few)) (omega (arith, some)))

  pub word_by_sum : (bits : ℕ) → units_of_float y g Even ≡ Some (pos bits -ℤ pos 4843621399236968448) → Some (wrap s n (pos bits)) ≡ saturated_float s n x g Even
  word_by_sum bits e =
      let w = pos bits -ℤ pos 4843621399236968448 in
      let r = held_by_sum.1 w e in
      let alike : Congruent (2 ^ 32) (pos bits) w = (pos 1127743488, omega (arith, ints)) in
      ap Some (wrap_alike s n (pos bits) w N (narrower n 32 (pos bits) w narrow alike) ∙ wrap_same s n w N (saturated_in s n x g w r)) ∙ sym r

-- ---- a float from the least number of the word to the greatest one
module _ (s : Bool) (n : ℕ) (N : 0 < n) (narrow : n ≤ 32) (x : Float) (fit : T (fits binary64 x)) (g : ℕ) (G : g ≤ 64) (m M : ℕ) (p : m ≡ unsigned_abs (lowest s n)) (q : M ≡ unsigned_abs (highest s n)) (lo hi : Float)
    (L : lo ≡ nearest_float binary64 (pos 0 -ℤ pos m) g) (H : hi ≡ nearest_float binary64 (pos M -ℤ pos 0) g) (between : (le lo x && le x hi) ≡ true) where
  lower : T (le lo x)
  lower = passes _ (both_true (le lo x) (le x hi) between).0

  upper : T (le x hi)
  upper = passes _ (both_true (le lo x) (le x hi) between).1

  same : x ≡ (if lt x lo then lo else (if lt hi x then hi else x))
  same = sym (λ i. if not_below lo x lower i then lo else (if not_below x hi upper i then hi else x))

  pub near_between : IsSmall x g × ((w : ℤ) → units_of_float x g Even ≡ Some w → InRange s n w)
  near_between =
      let r = held_by_sum s n N narrow x (le_right lo x lower) fit g G m M p q lo hi x L H same in
      (r.0, λ w e. saturated_in s n x g w (r.1 w e))
