-- The root by the magnitude of the word.
use Rattle.std.proofs.Common.{◌≡◌, ◌≤ℤ◌, ◌≤◌, ℕ, ℤ, pos, sym, ap, ◌∙◌, arith}
use Rattle.std.proofs.lemmas.Int.{ints}
use Rattle.std.specs.Prelude.{unsigned_abs}
use Rattle.fixed_word.specs.Format.{IsWidth}
use Rattle.fixed_root.specs.Root.{root_of}

pub at_most_64 : (n : ℕ) → IsWidth n → n ≤ 64
at_most_64 n w = grind arith

-- v is a word's value and m its magnitude
pub found : (f m r : ℕ) (v : ℤ) → pos 0 ≤ℤ v → m ≡ unsigned_abs v → pos r ≡ root_of (pos m) f → root_of v f ≡ pos r
found f m r v h e root =
    let same : v ≡ pos m = omega (arith, ints) in
    ap (λ (x : ℤ). root_of x f) same ∙ sym root
