-- Sums of three numbers, by their partial sums, and differences that are not below 0.
use Rattle.std.proofs.Common.{option_map, ◌≡◌, ◌<◌, ◌≤ℤ◌, ◌+ℤ◌, ◌-ℤ◌, ℕ, ℤ, Bool, true, false, pos, Some, Option, refl, sym, ap, ◌∙◌, arith}
use Rattle.std.specs.Prelude.{cond, int_lt, not}
use Rattle.std.specs.declared.cmp.Ordering.{Ordering}
use Rattle.std.specs.declared.cmp.Ordering.TheVariants.{Less, Equal, Greater}
use Rattle.std.specs.Ordering.{int_cmp, is_lt, is_some_and, partial_lt}
use Rattle.std.specs.Int.{int_max}
use Rattle.std.proofs.lemmas.Bool.{false≢true}
use Rattle.std.proofs.lemmas.Int.{by_lt_z, int_max_is, ints}
use Rattle.fixed_word.specs.Format.{IsWidth, InRange, fits, wrap}
use Rattle.fixed_word.specs.Policies.{checked, overflowing}
use Rattle.fixed_word.proofs.Sides.{lt_yes}
use Rattle.fixed_word.proofs.Wraps.{width_pos, wrap_alike, wrap_congruent, wrap_same}

not_false : (b : Bool) → not b ≡ false → b ≡ true
not_false true e = refl
not_false false e = sym e

-- what is wrapped on the way is wrapped at the end all the same
pub wrapped_once : (s : Bool) (n : ℕ) (x z : ℤ) → 0 < n → wrap s n (wrap s n x +ℤ z) ≡ wrap s n (x +ℤ z)
wrapped_once s n x z some =
    let c = wrap_congruent s n x in
    let e = c.1 in
    sym (wrap_alike s n (x +ℤ z) (wrap s n x +ℤ z) some (c.0, omega (arith, ints)))

fits_in_range : (s : Bool) (n : ℕ) (x : ℤ) → fits s n x ≡ true → InRange s n x
fits_in_range s n x e = grind (arith, ints)

-- the number and the verdict
wrapped_number : (s : Bool) (n : ℕ) (x y : ℤ) (overflows : Bool) → ◌≡◌ {A = Option (ℤ × Bool)} (Some (y, overflows)) (overflowing s n (Some x)) → Some y ≡ Some (wrap s n x)
wrapped_number s n x y overflows e = ap (λ (o : Option (ℤ × Bool)). option_map (λ (p : ℤ × Bool). p.0) o) e

verdict_is : (s : Bool) (n : ℕ) (x y : ℤ) (overflows : Bool) → ◌≡◌ {A = Option (ℤ × Bool)} (Some (y, overflows)) (overflowing s n (Some x)) → overflows ≡ not (fits s n x)
verdict_is s n x y overflows e =
    let there : Some overflows ≡ Some (not (fits s n x)) = ap (λ (o : Option (ℤ × Bool)). option_map (λ (p : ℤ × Bool). p.1) o) e in
    cc

exact_one : (s : Bool) (n : ℕ) (x y : ℤ) (overflows : Bool) → 0 < n → ◌≡◌ {A = Option (ℤ × Bool)} (Some (y, overflows)) (overflowing s n (Some x)) → overflows ≡ false → y ≡ x
exact_one s n x y overflows some e f =
    let wrapped = wrapped_number s n x y overflows e in
    let verdict = verdict_is s n x y overflows e in
    let number : y ≡ wrap s n x = cc in
    number ∙ wrap_same s n x some (fits_in_range s n x (not_false (fits s n x) (sym verdict ∙ f)))

module _ (s : Bool) (n : ℕ) (x z y w : ℤ) (width : IsWidth n) where
  pub wrapped_sum : Some y ≡ Some (wrap s n x) → Some w ≡ Some (wrap s n (y +ℤ z)) → w ≡ wrap s n (x +ℤ z)
  wrapped_sum e f =
      let first : y ≡ wrap s n x = cc in
      let second : w ≡ wrap s n (y +ℤ z) = cc in
      second ∙ ap (λ (k : ℤ). wrap s n (k +ℤ z)) first ∙ wrapped_once s n x z (width_pos n width)

  pub overflowed_sum : (first second : Bool) → ◌≡◌ {A = Option (ℤ × Bool)} (Some (y, first)) (overflowing s n (Some x)) → ◌≡◌ {A = Option (ℤ × Bool)} (Some (w, second)) (overflowing s n (Some (y +ℤ z))) → w ≡ wrap s n (x +ℤ z)
  overflowed_sum first second e f = wrapped_sum (wrapped_number s n x y first e) (wrapped_number s n (y +ℤ z) w second f)

  pub exact_sum : (first second : Bool) → ◌≡◌ {A = Option (ℤ × Bool)} (Some (y, first)) (overflowing s n (Some x)) → ◌≡◌ {A = Option (ℤ × Bool)} (Some (w, second)) (overflowing s n (Some (y +ℤ z))) → first ≡ false → second ≡ false → w ≡ x +ℤ z
  exact_sum first second e f no_first no_second =
      let y_is : y ≡ x = exact_one s n x y first (width_pos n width) e no_first in
      let w_is : w ≡ y +ℤ z = exact_one s n (y +ℤ z) w second (width_pos n width) f no_second in
      w_is ∙ ap (λ (k : ℤ). k +ℤ z) y_is

-- ---- differences
less_is : (t u : Bool) → is_lt (cond t Less (cond u Greater Equal)) ≡ t
less_is true u = refl
less_is false true = refl
less_is false false = refl

-- a word that is not less than another
pub not_less : {T : Type 0} (compared : T → T → Option Ordering) (a b : T) (r : Bool) (x y : ℤ) → compared a b ≡ Some (int_cmp x y) → r ≡ partial_lt compared a b → r ≡ false → y ≤ℤ x
not_less compared a b r x y order is no_less =
    let less : r ≡ int_lt x y = is ∙ ap (λ (o : Option Ordering). is_some_and is_lt o) order ∙ less_is (int_lt x y) (int_lt y x) in
    by_lt_z x y (λ l. absurd (false≢true (sym no_less ∙ less ∙ lt_yes x y l))) (λ l. l)

pub from_zero : (s : Bool) (n : ℕ) (x y : ℤ) (o : Option ℤ) → y ≤ℤ x → o ≡ checked s n (Some (x -ℤ y)) → o ≡ checked s n (Some (int_max (x -ℤ y) (pos 0)))
from_zero s n x y o h e =
    let same : int_max (x -ℤ y) (pos 0) ≡ x -ℤ y = omega (arith, ints, int_max_is (x -ℤ y) (pos 0)) in
    e ∙ ap (λ (d : ℤ). checked s n (Some d)) (sym same)
