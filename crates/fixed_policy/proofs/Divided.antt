-- What a checked call answers of a row that is undefined somewhere.
use Rattle.std.proofs.Common.{◌≡◌, ◌≢◌, ◌≤ℤ◌, ◌<ℤ◌, ℕ, ℤ, zero, suc, pos, negsuc, Bool, true, false, Option, Some, None, refl, sym, ap, ◌∙◌, arith}
use Rattle.std.proofs.lemmas.Bool.{false≢true}
use Rattle.std.proofs.lemmas.Int.{ints}
use Rattle.std.specs.Prelude.{◌↔◌, IsTrue}
use Rattle.fixed_word.specs.Policies.{checked}
use Rattle.fixed_kernel.specs.Rows.{by_divisor, by_sign}

-- ---- whether a word is 0, by a test against the word of 0
module _ {W : Type 0} (value : W → ℤ) (x other zero_word : W) (same tested : Bool) (law : IsTrue same ↔ (value x ≡ value other)) (zero_law : value zero_word ≡ pos 0) (is : other ≡ zero_word) (by_test : tested ≡ same) where
  pub is_zero : tested ≡ true → value x ≡ pos 0
  is_zero t = law.0 (sym by_test ∙ t) ∙ ap value is ∙ zero_law

  pub is_some : tested ≡ false → value x ≢ pos 0
  is_some f z = false≢true (sym f ∙ by_test ∙ law.1 (z ∙ sym (ap value is ∙ zero_law)))

-- ---- rows with a divisor
pub divided : (s : Bool) (n : ℕ) (d x : ℤ) (kept : Option ℤ) → d ≢ pos 0 → kept ≡ checked s n (Some x) → kept ≡ checked s n (by_divisor d x)
divided s n (pos zero) x kept some e = absurd (some refl)
divided s n (pos (suc d)) x kept some e = e
divided s n (negsuc d) x kept some e = e

pub undivided : (s : Bool) (n : ℕ) (d x : ℤ) → d ≡ pos 0 → None ≡ checked s n (by_divisor d x)
undivided s n d x e = rw e refl

-- ---- roots
pub not_below : (a : ℤ) → (a <ℤ pos 0 → ⊥) → pos 0 ≤ℤ a
not_below (pos a) never = omega (arith, ints)
not_below (negsuc a) never = absurd (never (omega (arith, ints)))

pub rooted : (s : Bool) (n : ℕ) (a x : ℤ) (kept : Option ℤ) → (a <ℤ pos 0 → ⊥) → kept ≡ checked s n (Some x) → kept ≡ checked s n (by_sign a x)
rooted s n (pos a) x kept never e = e
rooted s n (negsuc a) x kept never e = absurd (never (omega (arith, ints)))

pub unrooted : (s : Bool) (n : ℕ) (a x : ℤ) → a <ℤ pos 0 → None ≡ checked s n (by_sign a x)
unrooted s n (pos a) x below = absurd (omega (arith, ints))
unrooted s n (negsuc a) x below = refl
