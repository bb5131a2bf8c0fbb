-- Sums of words that differ in sign.
use Rattle.std.proofs.Common.{◌≡◌, ◌⊎◌, ◌-◌, ◌^◌, ◌<◌, ◌≤ℤ◌, ◌<ℤ◌, ◌+ℤ◌, ◌-ℤ◌, ℕ, ℤ, Bool, true, false, pos, neg_ℤ, refl, ap, sym, ◌∙◌, arith, inl, inr}
use Rattle.std.specs.Prelude.{◌↔◌, IsTrue, not}
use Rattle.std.specs.Bool.{beq}
use Rattle.std.proofs.lemmas.Bool.{false≢true}
use Rattle.std.proofs.lemmas.Int.{by_lt_z, ints}
use Rattle.std.proofs.lemmas.Nat.{pow_pos}
use Rattle.fixed_word.specs.declared.outcome.Side.{Side}
use Rattle.fixed_word.specs.declared.outcome.Side.TheVariants.{Fits}
use Rattle.fixed_word.specs.declared.outcome.Outcome.{Outcome}
use Rattle.fixed_word.specs.Format.{InRange, lowest, highest, wrap}
use Rattle.fixed_word.specs.Standing.{StandsFor}
use Rattle.fixed_word.specs.inside.PastSide.{past_side}
use Rattle.fixed_word.proofs.Sides.{highest_sign, kept_self, lowest_sign, side_fits, stands_kept}
use Rattle.fixed_word.proofs.Standings.{range_from_side}
use Rattle.fixed_word.proofs.Wraps.{double, range_len, wrap_alike, wrap_in_range, wrap_same, wrap_unique}
use Rattle.fixed_kernel.specs.inside.Turned.{IsTurned}

-- ---- turned outcomes

-- one of both fits where they differ
below_range : (s : Bool) (n : ℕ) (x y : ℤ) → 0 < n → IsTurned s n true true x y → ¬ InRange s n x → InRange s n y
below_range s n x y h t out =
    let by = t.0 in
    let low = t.1 in
    let high = t.2 in
    let len = range_len s n h in
    by_lt_z (highest s n) x (λ l. (omega (arith, ints), high)) (λ l. absurd (out (low, l)))

below_out : (s : Bool) (n : ℕ) (x y : ℤ) → 0 < n → IsTurned s n true true x y → InRange s n x → ¬ InRange s n y
below_out s n x y h t i = λ j. (
    let by = t.0 in
    let high = i.1 in
    let low = j.0 in
    let len = range_len s n h in
    omega (arith, ints))

above_range : (s : Bool) (n : ℕ) (x y : ℤ) → 0 < n → IsTurned s n true false x y → ¬ InRange s n x → InRange s n y
above_range s n x y h t out =
    let by = t.0 in
    let low = t.1 in
    let high = t.2 in
    let len = range_len s n h in
    by_lt_z x (lowest s n) (λ l. (low, omega (arith, ints))) (λ l. absurd (out (l, high)))

above_out : (s : Bool) (n : ℕ) (x y : ℤ) → 0 < n → IsTurned s n true false x y → InRange s n x → ¬ InRange s n y
above_out s n x y h t i = λ j. (
    let by = t.0 in
    let low = i.0 in
    let high = j.1 in
    let len = range_len s n h in
    omega (arith, ints))

-- whether y fits, where u says whether x does not
fits_turned : (s : Bool) (n : ℕ) (x y : ℤ) (u moved below : Bool) → 0 < n → IsTurned s n moved below x y → (u ≡ false → InRange s n x) → (u ≡ true → ¬ InRange s n x) → IsTrue (beq u moved) ↔ InRange s n y
fits_turned s n x y false false below h t i o = ((λ _. rw t at (i refl)), (λ _. refl))
fits_turned s n x y true false below h t i o = ((λ f. absurd (false≢true f)), (λ r. absurd (o refl (rw (sym t) at r))))
fits_turned s n x y false true true h t i o = ((λ f. absurd (false≢true f)), (λ r. absurd (below_out s n x y h t (i refl) r)))
fits_turned s n x y true true true h t i o = ((λ _. below_range s n x y h t (o refl)), (λ _. refl))
fits_turned s n x y false true false h t i o = ((λ f. absurd (false≢true f)), (λ r. absurd (above_out s n x y h t (i refl) r)))
fits_turned s n x y true true false h t i o = ((λ _. above_range s n x y h t (o refl)), (λ _. refl))

-- both leave the same
left_turned : (s : Bool) (n : ℕ) (x y : ℤ) (moved below : Bool) → 0 < n → IsTurned s n moved below x y → wrap s n x ≡ wrap s n y
left_turned s n x y false below h t = ap (wrap s n) t
left_turned s n x y true true h t = wrap_alike s n x y h (pos 1, let by = t.0 in omega (arith, ints))
left_turned s n x y true false h t = sym (wrap_alike s n y x h (pos 1, let by = t.0 in omega (arith, ints)))

pub turned_stands : {T : Type 0} (value : T → ℤ) (s : Bool) (n : ℕ) (x y : ℤ) (u moved below : Bool) (o : Outcome T) (side : Side) → 0 < n → StandsFor value s n x o → IsTurned s n moved below x y
    → (o.side ≡ Fits → u ≡ false) → (u ≡ false → o.side ≡ Fits) → (¬ InRange s n y → IsTrue below ↔ (y <ℤ pos 0)) → side ≡ past_side (not (beq u moved)) below
    → StandsFor value s n y (record { wrapped = o.wrapped; side = side })
turned_stands value s n x y u moved below o side h f t i j out e =
    let left = f.wrapped ∙ left_turned s n x y moved below h t in
    let within = λ (z : u ≡ false). range_from_side s n x (sym f.side ∙ j z) in
    let past = λ (z : u ≡ true). λ (r : InRange s n x). false≢true (sym (i (f.side ∙ side_fits s n x r.0 r.1)) ∙ z) in
    let same = fits_turned s n x y u moved below h t within past in
    let its : IsTrue (beq u moved) ↔ (value o.wrapped ≡ y) = ((λ z. left ∙ wrap_same s n y h (same.0 z)), (λ z. same.1 (rw (sym z ∙ left) (wrap_in_range s n y h)))) in
    stands_kept value s n y y (value o.wrapped) o.wrapped (beq u moved) below side h left refl its e (kept_self s n y) out

-- a number that a moved one passes lies on the side to which it moved
past_moved : (s : Bool) (n : ℕ) (a z : ℤ) (below : Bool) → InRange s n a → (IsTrue below → z ≤ℤ a) → (below ≡ false → a ≤ℤ z) → ¬ InRange s n z → IsTrue below ↔ (z <ℤ pos 0)
past_moved s n a z true r down up out =
    let low = lowest_sign s n in
    let high = r.1 in
    let d = down refl in
    ((λ _. by_lt_z z (lowest s n) (λ l. omega (arith, ints)) (λ l. absurd (out (l, omega (arith, ints))))), (λ _. refl))
past_moved s n a z false r down up out =
    let top = highest_sign s n in
    let low = r.0 in
    let u = up refl in
    ((λ f. absurd (false≢true f)), (λ l. by_lt_z (highest s n) z (λ h. absurd (omega (arith, ints))) (λ h. absurd (out (omega (arith, ints), h)))))

-- ---- what a word keeps of one of its width

-- it is the other, or lies 2 ^ n below or above it
kept_is : (s u : Bool) (n : ℕ) (b k : ℤ) → 0 < n → InRange u n b → k ≡ wrap s n b
    → (k ≡ b) ⊎ (((s ≡ true) × (b ≡ k +ℤ pos (2 ^ n)) × (k <ℤ pos 0) × (pos 0 ≤ℤ b)) ⊎ ((s ≡ false) × (k ≡ b +ℤ pos (2 ^ n)) × (b <ℤ pos 0) × (pos 0 ≤ℤ k)))
kept_is true true n b k h r e = inl (e ∙ wrap_same true n b h r)
kept_is false false n b k h r e = inl (e ∙ wrap_same false n b h r)
kept_is true false n b k h r e =
    let low = r.0 in
    let high = r.1 in
    let twice = double n h in
    let p = pow_pos (n - 1) in
    by_lt_z (highest true n) b
    (λ l. let w = e ∙ wrap_unique true n b (b -ℤ pos (2 ^ n)) h (omega (arith, ints), omega (arith, ints)) (pos 1, omega (arith, ints)) in inr (inl (refl, omega (arith, ints), omega (arith, ints), low)))
    (λ l. inl (e ∙ wrap_same true n b h (omega (arith, ints), l)))
kept_is false true n b k h r e =
    let low = r.0 in
    let high = r.1 in
    let twice = double n h in
    let p = pow_pos (n - 1) in
    by_lt_z b (pos 0)
    (λ l. let w = e ∙ wrap_unique false n b (b +ℤ pos (2 ^ n)) h (omega (arith, ints), omega (arith, ints)) (neg_ℤ (pos 1), omega (arith, ints)) in inr (inr (refl, omega (arith, ints), l, omega (arith, ints))))
    (λ l. inl (e ∙ wrap_same false n b h (l, omega (arith, ints))))

from_zero : (p : Bool) (x : ℤ) → (IsTrue p ↔ (x <ℤ pos 0)) → p ≡ false → pos 0 ≤ℤ x
from_zero p x f e = by_lt_z x (pos 0) (λ l. absurd (false≢true (sym e ∙ f.1 l))) (λ l. l)

-- ---- a sum and a difference with it

-- the side of one that does not fit
pub sum_past : (s : Bool) (n : ℕ) (a b : ℤ) (q : Bool) → InRange s n a → (IsTrue q ↔ (b <ℤ pos 0)) → ¬ InRange s n (a +ℤ b) → IsTrue q ↔ ((a +ℤ b) <ℤ pos 0)
sum_past s n a b q r g = past_moved s n a (a +ℤ b) q r (λ i. let l = g.0 i in omega (arith, ints)) (λ e. let l = from_zero q b g e in omega (arith, ints))

pub difference_past : (s : Bool) (n : ℕ) (a b : ℤ) (q : Bool) → InRange s n a → (IsTrue q ↔ (b <ℤ pos 0)) → ¬ InRange s n (a -ℤ b) → IsTrue (not q) ↔ ((a -ℤ b) <ℤ pos 0)
difference_past s n a b true r g = past_moved s n a (a -ℤ b) false r (λ f. absurd (false≢true f)) (λ e. let l = g.0 refl in omega (arith, ints))
difference_past s n a b false r g = past_moved s n a (a -ℤ b) true r (λ i. let l = from_zero false b g refl in omega (arith, ints)) (λ e. absurd (false≢true (sym e)))

added_up : (n : ℕ) (a b k : ℤ) → InRange true n a → b ≡ k +ℤ pos (2 ^ n) → k <ℤ pos 0 → pos 0 ≤ℤ b → IsTurned true n true false (a +ℤ k) (a +ℤ b)
added_up n a b k r e i j = let low = r.0 in let high = r.1 in (omega (arith, ints), omega (arith, ints), omega (arith, ints))

added_down : (n : ℕ) (a b k : ℤ) → InRange false n a → k ≡ b +ℤ pos (2 ^ n) → b <ℤ pos 0 → pos 0 ≤ℤ k → IsTurned false n true true (a +ℤ k) (a +ℤ b)
added_down n a b k r e i j = let low = r.0 in let high = r.1 in (omega (arith, ints), omega (arith, ints), omega (arith, ints))

pub added : (s u : Bool) (n : ℕ) (a b k : ℤ) (p q : Bool) → 0 < n → InRange s n a → InRange u n b → k ≡ wrap s n b → (IsTrue p ↔ (k <ℤ pos 0)) → (IsTrue q ↔ (b <ℤ pos 0))
    → IsTurned s n (not (beq p q)) q (a +ℤ k) (a +ℤ b)
added s u n a b k true true h r v e f g =
    let i = f.0 refl in
    let j = g.0 refl in
    elim (kept_is s u n b k h v e) [
      | inl same ↦ ap (λ z. a +ℤ z) same
      | inr (inl up) ↦ let l = up.3 in absurd (omega (arith, ints))
      | inr (inr down) ↦ let l = down.3 in absurd (omega (arith, ints))
    ]
added s u n a b k false false h r v e f g =
    let i = from_zero false k f refl in
    let j = from_zero false b g refl in
    elim (kept_is s u n b k h v e) [
      | inl same ↦ ap (λ z. a +ℤ z) same
      | inr (inl up) ↦ let l = up.2 in absurd (omega (arith, ints))
      | inr (inr down) ↦ let l = down.2 in absurd (omega (arith, ints))
    ]
added s u n a b k true false h r v e f g =
    let i = f.0 refl in
    let j = from_zero false b g refl in
    elim (kept_is s u n b k h v e) [
      | inl same ↦ absurd (omega (arith, ints))
      | inr (inl up) ↦ rw up.0 (added_up n a b k (rw up.0 at r) up.1 up.2 up.3)
      | inr (inr down) ↦ let l = down.2 in absurd (omega (arith, ints))
    ]
added s u n a b k false true h r v e f g =
    let i = from_zero false k f refl in
    let j = g.0 refl in
    elim (kept_is s u n b k h v e) [
      | inl same ↦ absurd (omega (arith, ints))
      | inr (inl up) ↦ let l = up.2 in absurd (omega (arith, ints))
      | inr (inr down) ↦ rw down.0 (added_down n a b k (rw down.0 at r) down.1 down.2 down.3)
    ]

taken_up : (n : ℕ) (a b k : ℤ) → InRange true n a → b ≡ k +ℤ pos (2 ^ n) → k <ℤ pos 0 → pos 0 ≤ℤ b → IsTurned true n true true (a -ℤ k) (a -ℤ b)
taken_up n a b k r e i j = let low = r.0 in let high = r.1 in (omega (arith, ints), omega (arith, ints), omega (arith, ints))

taken_down : (n : ℕ) (a b k : ℤ) → InRange false n a → k ≡ b +ℤ pos (2 ^ n) → b <ℤ pos 0 → pos 0 ≤ℤ k → IsTurned false n true false (a -ℤ k) (a -ℤ b)
taken_down n a b k r e i j = let low = r.0 in let high = r.1 in (omega (arith, ints), omega (arith, ints), omega (arith, ints))

pub taken : (s u : Bool) (n : ℕ) (a b k : ℤ) (p q : Bool) → 0 < n → InRange s n a → InRange u n b → k ≡ wrap s n b → (IsTrue p ↔ (k <ℤ pos 0)) → (IsTrue q ↔ (b <ℤ pos 0))
    → IsTurned s n (not (beq p q)) (not q) (a -ℤ k) (a -ℤ b)
taken s u n a b k true true h r v e f g =
    let i = f.0 refl in
    let j = g.0 refl in
    elim (kept_is s u n b k h v e) [
      | inl same ↦ ap (λ z. a -ℤ z) same
      | inr (inl up) ↦ let l = up.3 in absurd (omega (arith, ints))
      | inr (inr down) ↦ let l = down.3 in absurd (omega (arith, ints))
    ]
taken s u n a b k false false h r v e f g =
    let i = from_zero false k f refl in
    let j = from_zero false b g refl in
    elim (kept_is s u n b k h v e) [
      | inl same ↦ ap (λ z. a -ℤ z) same
      | inr (inl up) ↦ let l = up.2 in absurd (omega (arith, ints))
      | inr (inr down) ↦ let l = down.2 in absurd (omega (arith, ints))
    ]
taken s u n a b k true false h r v e f g =
    let i = f.0 refl in
    let j = from_zero false b g refl in
    elim (kept_is s u n b k h v e) [
      | inl same ↦ absurd (omega (arith, ints))
      | inr (inl up) ↦ rw up.0 (taken_up n a b k (rw up.0 at r) up.1 up.2 up.3)
      | inr (inr down) ↦ let l = down.2 in absurd (omega (arith, ints))
    ]
taken s u n a b k false true h r v e f g =
    let i = from_zero false k f refl in
    let j = g.0 refl in
    elim (kept_is s u n b k h v e) [
      | inl same ↦ absurd (omega (arith, ints))
      | inr (inl up) ↦ let l = up.2 in absurd (omega (arith, ints))
      | inr (inr down) ↦ rw down.0 (taken_down n a b k (rw down.0 at r) down.1 down.2 down.3)
    ]
