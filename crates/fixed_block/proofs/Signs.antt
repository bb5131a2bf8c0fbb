-- Whether a sum or a difference of two signed words fits, by signs.
use Rattle.std.proofs.Common.{◌≡◌, ◌^◌, ◌<◌, ◌≤ℤ◌, ◌<ℤ◌, ◌+ℤ◌, ◌-ℤ◌, ◌-◌, ℕ, ℤ, Bool, true, false, pos, neg_ℤ, refl, sym, ◌∙◌, arith, inl, inr}
use Rattle.std.specs.Prelude.{◌↔◌, IsTrue}
use Rattle.std.proofs.lemmas.Bool.{false_from_ne_true, false≢true}
use Rattle.std.proofs.lemmas.Int.{ints}
use Rattle.std.proofs.lemmas.Nat.{pow_pos}
use mathlib.Core.Bool.{beq, not}
use Rattle.fixed_word.specs.Format.{InRange, fits, wrap}
use Rattle.fixed_word.proofs.Nearest.{cases_int, fits_is, places}
use Rattle.fixed_word.proofs.Wraps.{double, neg-times, wrap_same, wrap_unique}

-- a number fits exactly if its sign stays when it is wrapped
pub sign_kept : (n : ℕ) (z w : ℤ) (p r : Bool) → 0 < n → neg_ℤ (pos (2 ^ n)) ≤ℤ z → z <ℤ pos (2 ^ n) → (IsTrue p ↔ (z <ℤ pos 0)) → w ≡ wrap true n z → (IsTrue r ↔ (w <ℤ pos 0)) → beq r p ≡ fits true n z
sign_kept n z w p r some least most sign is left =
    let twice = double n some in
    elim (places true n z) [
      | inl below ↦
          let moved = is ∙ wrap_unique true n z (z +ℤ pos (2 ^ n)) some (omega (arith, ints), omega (arith, ints)) (neg_ℤ (pos 1), omega (arith, ints, neg-times 1 (2 ^ n))) in
          let p_is : p ≡ true = sign.1 (omega (arith, ints)) in
          let r_is : r ≡ false = false_from_ne_true r (λ t. let l = left.0 t in absurd (omega (arith, ints))) in
          let misses : fits true n z ≡ false = false_from_ne_true (fits true n z) (λ t. let low = ((fits_is true n z).0 t).0 in absurd (omega (arith, ints))) in
          rw (p_is, r_is, misses) refl
      | inr rest ↦ elim rest [
        | inl above ↦
            let moved = is ∙ wrap_unique true n z (z -ℤ pos (2 ^ n)) some (omega (arith, ints), omega (arith, ints)) (pos 1, omega (arith, ints)) in
            let power = pow_pos (n - 1) in
            let p_is : p ≡ false = false_from_ne_true p (λ t. let l = sign.0 t in absurd (omega (arith, ints))) in
            let r_is : r ≡ true = left.1 (omega (arith, ints)) in
            let misses : fits true n z ≡ false = false_from_ne_true (fits true n z) (λ t. let high = ((fits_is true n z).0 t).1 in absurd (omega (arith, ints))) in
            rw (p_is, r_is, misses) refl
        | inr within ↦
            let same = is ∙ wrap_same true n z some within in
            let hits : fits true n z ≡ true = (fits_is true n z).1 within in
            rw hits (alike r p (z <ℤ pos 0) (rw same at left) sign)
      ]
    ]
  where
    alike : (a b : Bool) (P : Type 0) → (IsTrue a ↔ P) → (IsTrue b ↔ P) → beq a b ≡ true
    alike true true P f g = refl
    alike false false P f g = refl
    alike true false P f g = absurd (false≢true (g.1 (f.0 refl)))
    alike false true P f g = absurd (false≢true (f.1 (g.0 refl)))

-- the sum of two numbers whose signs are alike has their sign
sum_sign : (x y : ℤ) (p q : Bool) → (IsTrue p ↔ (x <ℤ pos 0)) → (IsTrue q ↔ (y <ℤ pos 0)) → not (beq p q) ≡ false → IsTrue p ↔ ((x +ℤ y) <ℤ pos 0)
sum_sign x y true true f g e = (λ t. let a = f.0 refl in let b = g.0 refl in omega (arith, ints), λ l. refl)
sum_sign x y true false f g e = absurd (false≢true (sym e))
sum_sign x y false true f g e = absurd (false≢true (sym e))
sum_sign x y false false f g e = (
  λ t. absurd (false≢true t),
  λ l. elim (cases_int x (pos 0)) [
    | inl less ↦ f.1 less
    | inr least ↦ g.1 (omega (arith, ints))
  ],
)

pub sum_kept : (s : Bool) (n : ℕ) (x y w : ℤ) (p q r : Bool) → s ≡ true → 0 < n → InRange s n x → InRange s n y → (IsTrue p ↔ (x <ℤ pos 0)) → (IsTrue q ↔ (y <ℤ pos 0)) → w ≡ wrap s n (x +ℤ y) → (IsTrue r ↔ (w <ℤ pos 0)) → not (beq p q) ≡ false → beq r p ≡ fits s n (x +ℤ y)
sum_kept false n x y w p q r signed some in_x in_y sign_x sign_y is left alike = absurd (false≢true signed)
sum_kept true n x y w p q r signed some in_x in_y sign_x sign_y is left alike =
    let twice = double n some in
    let power = pow_pos (n - 1) in
    let a = in_x.0 in
    let b = in_x.1 in
    let c = in_y.0 in
    let d = in_y.1 in
    sign_kept n (x +ℤ y) w p r some (omega (arith, ints)) (omega (arith, ints)) (sum_sign x y p q sign_x sign_y alike) is left

-- and the difference of two whose signs differ has that of the first
difference_sign : (x y : ℤ) (p q : Bool) → (IsTrue p ↔ (x <ℤ pos 0)) → (IsTrue q ↔ (y <ℤ pos 0)) → beq p q ≡ false → IsTrue p ↔ ((x -ℤ y) <ℤ pos 0)
difference_sign x y true true f g e = absurd (false≢true (sym e))
difference_sign x y false false f g e = absurd (false≢true (sym e))
difference_sign x y true false f g e = (
  λ t. let a = f.0 refl in elim (cases_int y (pos 0)) [
    | inl less ↦ absurd (false≢true (g.1 less))
    | inr least ↦ omega (arith, ints)
  ],
  λ l. refl,
)
difference_sign x y false true f g e = (λ t. absurd (false≢true t), λ l. let b = g.0 refl in f.1 (omega (arith, ints)))

pub difference_kept : (s : Bool) (n : ℕ) (x y w : ℤ) (p q r : Bool) → s ≡ true → 0 < n → InRange s n x → InRange s n y → (IsTrue p ↔ (x <ℤ pos 0)) → (IsTrue q ↔ (y <ℤ pos 0)) → w ≡ wrap s n (x -ℤ y) → (IsTrue r ↔ (w <ℤ pos 0)) → beq p q ≡ false → beq r p ≡ fits s n (x -ℤ y)
difference_kept false n x y w p q r signed some in_x in_y sign_x sign_y is left alike = absurd (false≢true signed)
difference_kept true n x y w p q r signed some in_x in_y sign_x sign_y is left alike =
    let twice = double n some in
    let power = pow_pos (n - 1) in
    let a = in_x.0 in
    let b = in_x.1 in
    let c = in_y.0 in
    let d = in_y.1 in
    sign_kept n (x -ℤ y) w p r some (omega (arith, ints)) (omega (arith, ints)) (difference_sign x y p q sign_x sign_y alike) is left
