-- Roots of signed numbers with whole bits fit.
use Rattle.std.proofs.Common.{◌≡◌, ◌<◌, ◌≤ℤ◌, ℕ, ℤ, pos, Bool, true, false, refl, arith}
use Rattle.fixed_word.specs.Format.{InRange, IsWidth, fits}
use Rattle.fixed_word.proofs.Nearest.{fits_is}
use Rattle.fixed_kernel.specs.Root.{root_of}
use Rattle.fixed_kernel.proofs.RowLawsFits.{sqrt_signed}

pub root_fits : (n f : ℕ) (a : ℤ) → IsWidth n → f < n → InRange true n a → pos 0 ≤ℤ a → InRange true n (root_of a f)
root_fits n f a w l r z = in_range (fits true n (root_of a f)) refl
  where
    in_range : (b : Bool) → fits true n (root_of a f) ≡ b → InRange true n (root_of a f)
    in_range true e = (fits_is true n (root_of a f)).0 e
    in_range false e = let m = (sqrt_signed n f a w (omega arith) r z).0 e in let same = m.0 in absurd (omega arith)
