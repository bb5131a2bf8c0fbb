-- The sign of a number, and one by that sign.
use Rattle.std.proofs.Common.{◌≡◌, ◌^◌, ◌*ℤ◌, ◌<ℤ◌, ℕ, ℤ, zero, suc, pos, negsuc, refl, arith}
use Rattle.std.specs.Prelude.{◌≢◌}
use Rattle.std.proofs.lemmas.Int.{ints}
use Rattle.fixed_kernel.specs.Rows.{exact_signum}

-- the sign moved to its place
pub moved : (a : ℤ) (f : ℕ) → exact_signum a 0 *ℤ pos (2 ^ f) ≡ exact_signum a f
moved (pos zero) f = omega (arith, ints)
moved (pos (suc a)) f = omega (arith, ints)
moved (negsuc a) f = omega (arith, ints)

-- the sign by cases
pub at_zero : (a x : ℤ) → a ≡ pos 0 → x ≡ pos 0 → x ≡ exact_signum a 0
at_zero a x e f = rw e f

pub above : (a y : ℤ) → (a <ℤ pos 0 → ⊥) → a ≢ pos 0 → y ≡ pos 1 → y ≡ exact_signum a 0
above (pos zero) y h n f = absurd (n refl)
above (pos (suc a)) y h n f = f
above (negsuc a) y h n f = absurd (h (omega (arith, ints)))
