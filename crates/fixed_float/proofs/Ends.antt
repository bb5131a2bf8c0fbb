-- The ends of a range, for a whole number and for an infinity.
use Rattle.std.proofs.Common.{◌≡◌, ◌-◌, ◌^◌, ◌<◌, ◌≤◌, ◌<ℤ◌, ℕ, ℤ, zero, suc, Bool, true, false, pos, negsuc, unsigned_abs, ltb, refl, ap, sym, ◌∙◌, arith, inl, inr}
use Rattle.std.specs.Prelude.{None, Option, Some, if◌then◌else◌}
use Rattle.std.proofs.lemmas.Bool.{cases_lt, le-ltb, lt-ltb}
use Rattle.std.proofs.lemmas.Int.{ints}
use Rattle.std.proofs.lemmas.Nat.{pow_pos}
use Rattle.std.specs.Float.{Float, NotNan, nan, inf, fin}
use lib.Ieee.{is_nan}
use Rattle.fixed_word.specs.Format.{clamp, highest, lowest, with_sign, wrap, InRange, IsWidth}
use Rattle.fixed_word.specs.Policies.{saturating}
use Rattle.fixed_word.specs.Standing.{side_of}
use Rattle.fixed_word.specs.declared.outcome.Outcome.{Outcome}
use Rattle.fixed_word.specs.declared.outcome.Side.{Side}
use Rattle.fixed_word.specs.declared.outcome.Side.TheVariants.{Fits, Above, Below}
use Rattle.fixed_word.specs.declared.rounding.Rounding.{Rounding}
use Rattle.fixed_word.proofs.Nearest.{clamp_above, clamp_below}
use Rattle.fixed_word.proofs.Sides.{side_above, side_below, side_fits}
use Rattle.fixed_word.proofs.Standings.{clamp_same, range_from_side}
use Rattle.fixed_word.proofs.Wraps.{width_pos, wrap_same}
use Rattle.fixed_kernel.specs.inside.Alike.{Alike}
use Rattle.fixed_kernel.proofs.Alikes.{stands_alike}
use Rattle.fixed_float.specs.Rows.{saturated_float, units_of_float}

pub end_is : (s : Bool) (n : ℕ) (x : Float) (g : ℕ) (r : Rounding) (v : ℤ) → NotNan x → units_of_float x g r ≡ None
    → ((t : Bool) → x ≡ inf t → v ≡ (if t then lowest s n else highest s n)) → Some v ≡ saturated_float s n x g r
unfolding is_nan
end_is s n nan g r v h e at = absurd h
end_is s n (inf t) g r v h e at = ap (λ (z : ℤ). Some z) (at t refl)
end_is s n (fin t m k) g r v h e at = cc

pub held_row : (s : Bool) (n : ℕ) (x : Float) (g : ℕ) (r : Rounding) (v : ℤ) → units_of_float x g r ≡ Some v → saturated_float s n x g r ≡ Some (clamp s n v)
held_row s n nan g r v e = cc
held_row s n (inf t) g r v e = cc
held_row s n (fin t m k) g r v e = ap (λ (o : Option ℤ). saturating s n o) e

-- ---- a number by its sign and its magnitude m, where k is that of the end on its side
past_highest : (s : Bool) (n a : ℕ) → unsigned_abs (highest s n) < a → highest s n <ℤ pos a
past_highest true n a h = omega (arith, ints)
past_highest false n a h = omega (arith, ints)

pub to_highest : (s : Bool) (n a : ℕ) → a ≤ unsigned_abs (highest s n) → InRange s n (pos a)
to_highest true n a h = let p = pow_pos (n - 1) in (omega (arith, ints), omega (arith, ints))
to_highest false n a h = let p = pow_pos n in (omega (arith, ints), omega (arith, ints))

past_lowest : (s : Bool) (n a : ℕ) → unsigned_abs (lowest s n) < suc a → negsuc a <ℤ lowest s n
past_lowest true n a h = omega (arith, ints)
past_lowest false n a h = omega (arith, ints)

pub to_lowest : (s : Bool) (n a : ℕ) → suc a ≤ unsigned_abs (lowest s n) → InRange s n (negsuc a)
to_lowest true n a h = let p = pow_pos (n - 1) in (omega (arith, ints), omega (arith, ints))
to_lowest false n a h = absurd (omega (arith, ints))

module _ {T : Type 0} (value : T → ℤ) (s : Bool) (n : ℕ) (N : 0 < n) (end kept : T) where
  held_above : (a : ℕ) → value end ≡ highest s n → value kept ≡ wrap s n (pos a) → value (if ltb (unsigned_abs (highest s n)) a then end else kept) ≡ clamp s n (pos a)
  held_above a e w = elim (cases_lt (unsigned_abs (highest s n)) a) [
    | inl l ↦ rw (lt-ltb (unsigned_abs (highest s n)) a l) (e ∙ sym (clamp_above s n (pos a) (past_highest s n a l)))
    | inr g ↦ let r = to_highest s n a g in rw (le-ltb (unsigned_abs (highest s n)) a g) (w ∙ wrap_same s n (pos a) N r ∙ sym (clamp_same s n (pos a) r))
  ]

  held_below : (a : ℕ) → value end ≡ lowest s n → value kept ≡ wrap s n (negsuc a) → value (if ltb (unsigned_abs (lowest s n)) (suc a) then end else kept) ≡ clamp s n (negsuc a)
  held_below a e w = elim (cases_lt (unsigned_abs (lowest s n)) (suc a)) [
    | inl l ↦ rw (lt-ltb (unsigned_abs (lowest s n)) (suc a) l) (e ∙ sym (clamp_below s n (negsuc a) (past_lowest s n a l)))
    | inr g ↦ let r = to_lowest s n a g in rw (le-ltb (unsigned_abs (lowest s n)) (suc a) g) (w ∙ wrap_same s n (negsuc a) N r ∙ sym (clamp_same s n (negsuc a) r))
  ]

  held_zero : value end ≡ lowest s n → value kept ≡ wrap s n (pos 0) → value (if ltb (unsigned_abs (lowest s n)) 0 then end else kept) ≡ clamp s n (pos 0)
  held_zero e w =
      let r = to_highest s n 0 (omega arith) in
      rw (le-ltb (unsigned_abs (lowest s n)) 0 (omega arith)) (w ∙ wrap_same s n (pos 0) N r ∙ sym (clamp_same s n (pos 0) r))

  pub held_is : (b : Bool) (m k : ℕ) → value end ≡ (if b then lowest s n else highest s n) → value kept ≡ wrap s n (with_sign b m)
      → k ≡ unsigned_abs (value end) → value (if ltb k m then end else kept) ≡ clamp s n (with_sign b m)
  held_is false m k e w K = (λ i. value (if ltb ((K ∙ ap unsigned_abs e) i) m then end else kept)) ∙ held_above m e w
  held_is true zero k e w K = (λ i. value (if ltb ((K ∙ ap unsigned_abs e) i) 0 then end else kept)) ∙ held_zero e w
  held_is true (suc a) k e w K = (λ i. value (if ltb ((K ∙ ap unsigned_abs e) i) (suc a) then end else kept)) ∙ held_below a e w

-- ---- the side of such a number
pub side_is : (s : Bool) (n : ℕ) (b : Bool) (m k : ℕ) (v : ℤ) → v ≡ (if b then lowest s n else highest s n) → k ≡ unsigned_abs v
    → (if ltb k m then (if b then Below else Above) else Fits) ≡ side_of s n (with_sign b m)
side_is s n b m k v e K = (λ i. if ltb ((K ∙ ap unsigned_abs e) i) m then (if b then Below else Above) else Fits) ∙ at b m
  where
    at : (b : Bool) (m : ℕ) → (if ltb (unsigned_abs (if b then lowest s n else highest s n)) m then (if b then Below else Above) else Fits) ≡ side_of s n (with_sign b m)
    at false a = elim (cases_lt (unsigned_abs (highest s n)) a) [
      | inl l ↦ rw (lt-ltb (unsigned_abs (highest s n)) a l) (sym (side_above s n (pos a) (past_highest s n a l)))
      | inr g ↦ rw (le-ltb (unsigned_abs (highest s n)) a g) (let r = to_highest s n a g in sym (side_fits s n (pos a) r.0 r.1))
    ]
    at true zero = rw (le-ltb (unsigned_abs (lowest s n)) 0 (omega arith)) (let r = to_highest s n 0 (omega arith) in sym (side_fits s n (pos 0) r.0 r.1))
    at true (suc a) = elim (cases_lt (unsigned_abs (lowest s n)) (suc a)) [
      | inl l ↦ rw (lt-ltb (unsigned_abs (lowest s n)) (suc a) l) (sym (side_below s n (negsuc a) (past_lowest s n a l)))
      | inr g ↦ rw (le-ltb (unsigned_abs (lowest s n)) (suc a) g) (let r = to_lowest s n a g in sym (side_fits s n (negsuc a) r.0 r.1))
    ]

-- ---- numbers of which every word keeps the same
above_from_side : (s : Bool) (n : ℕ) (x : ℤ) → side_of s n x ≡ Above → highest s n <ℤ x
above_from_side s n x e = grind (arith, ints)

below_from_side : (s : Bool) (n : ℕ) (x : ℤ) → side_of s n x ≡ Below → x <ℤ lowest s n
below_from_side s n x e = grind (arith, ints)

by_side : (s : Bool) (n : ℕ) (x y : ℤ) (t : Side) → 0 < n → side_of s n x ≡ t → side_of s n y ≡ t → wrap s n x ≡ wrap s n y → clamp s n x ≡ clamp s n y
by_side s n x y Fits N a b w =
    let r = range_from_side s n x a in
    let q = range_from_side s n y b in
    clamp_same s n x r ∙ sym (wrap_same s n x N r) ∙ w ∙ wrap_same s n y N q ∙ sym (clamp_same s n y q)
by_side s n x y Above N a b w = clamp_above s n x (above_from_side s n x a) ∙ sym (clamp_above s n y (above_from_side s n y b))
by_side s n x y Below N a b w = clamp_below s n x (below_from_side s n x a) ∙ sym (clamp_below s n y (below_from_side s n y b))

pub clamp_alike : (s : Bool) (n : ℕ) (x y : ℤ) → IsWidth n → Alike (2 ^ 64) x y → clamp s n x ≡ clamp s n y
clamp_alike s n x y w a =
    let o : Outcome ℤ = record { wrapped = wrap s n y; side = side_of s n y } in
    let h = stands_alike (λ (z : ℤ). z) s n x y o w a (record { wrapped = refl; side = refl }) in
    by_side s n x y (side_of s n x) (width_pos n w) refl h.side (sym h.wrapped)
