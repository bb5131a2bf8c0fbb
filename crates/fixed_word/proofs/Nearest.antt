-- The number that fits and is nearest, and the test whether a number fits.
use Rattle.std.proofs.Common.{◌≡◌, ◌⊎◌, ◌+◌, ◌≤◌, ◌≤ℤ◌, ◌<ℤ◌, ◌-ℤ◌, ℕ, ℤ, Bool, true, false, IsTrue, sym, ◌∙◌, arith, inl, inr}
use Rattle.std.specs.Prelude.{◌↔◌, int_lt, unsigned_abs, if◌then◌else◌}
use Rattle.std.proofs.lemmas.Int.{ints}
use Rattle.std.proofs.lemmas.Bool.{cases_lt}
use borrow.Author.Differences.{up, down}
use Rattle.fixed_word.specs.declared.outcome.Side.TheVariants.{Fits, Above, Below}
use Rattle.fixed_word.specs.declared.outcome.Outcome.{Outcome}
use Rattle.fixed_word.specs.Format.{IsWidth, lowest, highest, InRange, fits, clamp}
use Rattle.fixed_word.specs.Standing.{StandsFor}
use Rattle.fixed_word.proofs.Sides.{lowest_sign, highest_sign, side_above, side_below, side_fits}
use Rattle.fixed_word.proofs.Standings.{clamp_same, clamp_where_fits}

pub cases_int : (a b : ℤ) → (a <ℤ b) ⊎ (b ≤ℤ a)
cases_int a b = elim (cases_lt (up a + down b) (up b + down a)) [
  | inl less ↦ inl (omega (arith, ints))
  | inr more ↦ inr (omega (arith, ints))
]

pub clamp_below : (s : Bool) (n : ℕ) (x : ℤ) → x <ℤ lowest s n → clamp s n x ≡ lowest s n
clamp_below s n x h =
    let e : int_lt x (lowest s n) ≡ true = sym (omega (arith, ints)) in
    rw e

pub clamp_above : (s : Bool) (n : ℕ) (x : ℤ) → highest s n <ℤ x → clamp s n x ≡ highest s n
clamp_above s n x h =
    let a = lowest_sign s n in
    let b = highest_sign s n in
    let d : int_lt x (lowest s n) ≡ false = sym (omega (arith, ints)) in
    let e : int_lt (highest s n) x ≡ true = sym (omega (arith, ints)) in
    rw (d, e)

-- x lies below the range, above it, or in it
pub places : (s : Bool) (n : ℕ) (x : ℤ) → (x <ℤ lowest s n) ⊎ ((highest s n <ℤ x) ⊎ InRange s n x)
places s n x = elim (cases_int x (lowest s n)) [
  | inl below ↦ inl below
  | inr l ↦ elim (cases_int (highest s n) x) [
    | inl above ↦ inr (inl above)
    | inr h ↦ inr (inr (l, h))
  ]
]

pub clamp_in_range : (s : Bool) (n : ℕ) (x : ℤ) → InRange s n (clamp s n x)
clamp_in_range s n x =
    let a = lowest_sign s n in
    let b = highest_sign s n in
    elim (places s n x) [
      | inl below ↦ rw (clamp_below s n x below) (omega (arith, ints), omega (arith, ints))
      | inr rest ↦ elim rest [
        | inl above ↦ rw (clamp_above s n x above) (omega (arith, ints), omega (arith, ints))
        | inr within ↦ rw (clamp_same s n x within) within
      ]
    ]

pub clamp_nearest : (s : Bool) (n : ℕ) (x y : ℤ) → InRange s n y → unsigned_abs (x -ℤ clamp s n x) ≤ unsigned_abs (x -ℤ y)
clamp_nearest s n x y r =
    let l = r.0 in
    let h = r.1 in
    elim (places s n x) [
      | inl below ↦ rw (clamp_below s n x below) (omega (arith, ints))
      | inr rest ↦ elim rest [
        | inl above ↦ rw (clamp_above s n x above) (omega (arith, ints))
        | inr within ↦ rw (clamp_same s n x within) (omega (arith, ints))
      ]
    ]

pub fits_is : (s : Bool) (n : ℕ) (x : ℤ) → IsTrue (fits s n x) ↔ InRange s n x
fits_is s n x = grind (arith, ints)

-- an outcome's word, by a choice at each end, where a and b say whether its number lies above and below
pub clamp_by_choices : {T : Type 0} (value : T → ℤ) (s : Bool) (n : ℕ) (x : ℤ) (o : Outcome T) (least greatest : T) (a b : Bool)
    → IsWidth n → StandsFor value s n x o → value least ≡ lowest s n → value greatest ≡ highest s n
    → (o.side ≡ Fits → (a ≡ false) × (b ≡ false)) → (o.side ≡ Above → (a ≡ true) × (b ≡ false)) → (o.side ≡ Below → b ≡ true)
    → value (if b then least else (if a then greatest else o.wrapped)) ≡ clamp s n x
clamp_by_choices value s n x o least greatest a b w h l m fits above below = elim (places s n x) [
  | inl p ↦ rw (below (h.side ∙ side_below s n x p)) (l ∙ sym (clamp_below s n x p))
  | inr rest ↦ elim rest [
    | inl p ↦
        let f = above (h.side ∙ side_above s n x p) in
        rw (f.0, f.1) (m ∙ sym (clamp_above s n x p))
    | inr p ↦
        let e = h.side ∙ side_fits s n x p.0 p.1 in
        let f = fits e in
        rw (f.0, f.1) (sym (clamp_where_fits value s n x o w h e))
  ]
]
