use Rattle.std.proofs.Common.{◌≡◌, ◌-◌, ◌*◌, ◌^◌, ◌<◌, ◌-ℤ◌, ℕ, ℤ, suc, Bool, true, false, pos, unsigned_abs, T, ap, sym, ◌∙◌, subst, arith, w64, lt_of_lt_of_le, pow_mono}
use native.Mathlib.Nat.{le_refl, pow-succ'}
use lib.Pow.{pow_pos}
use lib.Signed.{non_neg}
use Rattle.std.proofs.lemmas.Int.{ints, to_z-of_z}
use Rattle.std.specs.Int.{w128}
use mir.Val.{Fits, SFits, of_z, to_z}
use Rattle.fixed_word.specs.Format.{InRange, IsWidth, lowest}
use Rattle.fixed_word.proofs.Wraps.{width_pos}
use Rattle.fixed_float.proofs.Products.{width_in}
use Rattle.fixed_float.proofs.nearest.above_least.Goals as goal

-- a number of the range, above the least one
above : (s : Bool) (n : ℕ) (x : ℤ) → 0 < n → InRange s n x → (d : ℕ) × (x -ℤ lowest s n ≡ pos d) × (d < 2 ^ n)
above true n x N h =
    let two : 2 ^ n ≡ 2 * 2 ^ (n - 1) = ap (λ (z : ℕ). 2 ^ z) {x = n} {y = suc (n - 1)} (omega arith) ∙ pow-succ' 2 (n - 1) in
    let some = pow_pos (n - 1) in
    (unsigned_abs (x -ℤ lowest true n), omega (arith, ints, h.0, h.1), omega (arith, ints, h.0, h.1, two, some))
above false n x N h = let some = pow_pos n in (unsigned_abs (x -ℤ lowest false n), omega (arith, ints, h.0, h.1), omega (arith, ints, h.0, h.1, some))

-- as the machine computes it
module _ (s : Bool) (n : ℕ) (W : IsWidth n) (x l : ℤ) (X : SFits w128 x) (L : SFits w128 l) (h : InRange s n x) (e : l ≡ lowest s n) where
  by : (d : ℕ) × (x -ℤ lowest s n ≡ pos d) × (d < 2 ^ n)
  by = above s n x (width_pos n W) h

  small : by.0 < 2 ^ 64
  small = lt_of_lt_of_le by.2 (pow_mono {i = n} {j = 64} (width_in n n W (le_refl n)))

  less : to_z w128 (of_z w128 x) -ℤ to_z w128 (of_z w128 l) ≡ pos by.0
  less = (λ i. to_z-of_z w128 x X i -ℤ to_z-of_z w128 l L i) ∙ ap (λ (z : ℤ). x -ℤ z) e ∙ by.1

  machine : to_z w128 (of_z w128 (to_z w128 (of_z w128 x) -ℤ to_z w128 (of_z w128 l))) ≡ pos by.0
  machine = ap (λ (z : ℤ). to_z w128 (of_z w128 z)) less ∙ to_z-of_z w128 (pos by.0) (record { sfits = omega (arith, small) })

pub overflow_cast-result : goal.overflow_cast-result
overflow_cast-result g c =
    let s = g.T.RawWord.SIGNED in
    let n = g.T.Valued.BITS in
    let x = c.to_wide.result in
    let l = c.to_wide-2.result in
    let h = subst (InRange s n) (sym c.to_wide.ensures.value) c.to_wide.ensures.in_range in
    let e : l ≡ lowest s n = c.to_wide-2.ensures.value ∙ ap g.T.Valued.value c.MIN.ensures ∙ g.met.T.RawWord.min_law in
    let m = machine s n g.met.T.RawWord.width_law x l (record { sfits = c.to_wide.type_inv }) (record { sfits = c.to_wide-2.type_inv }) h e in
    let f = small s n g.met.T.RawWord.width_law x l (record { sfits = c.to_wide.type_inv }) (record { sfits = c.to_wide-2.type_inv }) h e in
    subst (λ (z : ℤ). T (non_neg z) × Fits w64 (unsigned_abs z)) (sym m) (tt, record { fits = f })

pub returns-clause-value : goal.returns-clause-value
returns-clause-value g c =
    let s = g.T.RawWord.SIGNED in
    let n = g.T.Valued.BITS in
    let x = c.to_wide.result in
    let l = c.to_wide-2.result in
    let h = subst (InRange s n) (sym c.to_wide.ensures.value) c.to_wide.ensures.in_range in
    let e : l ≡ lowest s n = c.to_wide-2.ensures.value ∙ ap g.T.Valued.value c.MIN.ensures ∙ g.met.T.RawWord.min_law in
    let m = machine s n g.met.T.RawWord.width_law x l (record { sfits = c.to_wide.type_inv }) (record { sfits = c.to_wide-2.type_inv }) h e in
    let b = by s n g.met.T.RawWord.width_law x l (record { sfits = c.to_wide.type_inv }) (record { sfits = c.to_wide-2.type_inv }) h e in
    ap (λ (z : ℤ). pos (unsigned_abs z)) m ∙ sym b.1 ∙ ap (λ (z : ℤ). z -ℤ lowest s n) c.to_wide.ensures.value

pub returns-clause-size : goal.returns-clause-size
returns-clause-size g c =
    let s = g.T.RawWord.SIGNED in
    let n = g.T.Valued.BITS in
    let x = c.to_wide.result in
    let l = c.to_wide-2.result in
    let h = subst (InRange s n) (sym c.to_wide.ensures.value) c.to_wide.ensures.in_range in
    let e : l ≡ lowest s n = c.to_wide-2.ensures.value ∙ ap g.T.Valued.value c.MIN.ensures ∙ g.met.T.RawWord.min_law in
    let m = machine s n g.met.T.RawWord.width_law x l (record { sfits = c.to_wide.type_inv }) (record { sfits = c.to_wide-2.type_inv }) h e in
    let b = by s n g.met.T.RawWord.width_law x l (record { sfits = c.to_wide.type_inv }) (record { sfits = c.to_wide-2.type_inv }) h e in
    subst (λ (z : ℤ). unsigned_abs z < 2 ^ n) (sym m) b.2
