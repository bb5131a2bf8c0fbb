-- Where a checked call answers a number, the row is defined and its number fits.
use Rattle.std.proofs.Common.{◌≡◌, ◌≢◌, ◌≤ℤ◌, ℕ, ℤ, zero, suc, pos, negsuc, Bool, true, false, Some, None, refl, arith}
use Rattle.std.proofs.lemmas.Int.{ints}
use Rattle.fixed_word.specs.Format.{InRange, fits}
use Rattle.fixed_word.specs.Policies.{checked}
use Rattle.fixed_word.proofs.Nearest.{fits_is}
use Rattle.fixed_kernel.specs.Rows.{by_divisor, by_sign}

pub checked_fits : (s : Bool) (n : ℕ) (x y : ℤ) → Some y ≡ checked s n (Some x) → InRange s n x
checked_fits s n x y e = from_test (fits s n x) refl
  where
    from_test : (b : Bool) → fits s n x ≡ b → InRange s n x
    from_test true f = (fits_is s n x).0 f
    from_test false f = let h : Some y ≡ None = rw f at e in let bad : ⊥ = cc in absurd bad

pub checked_divisor : (s : Bool) (n : ℕ) (b x y : ℤ) → Some y ≡ checked s n (by_divisor b x) → (b ≢ pos 0) × InRange s n x
checked_divisor s n (pos zero) x y e = let bad : ⊥ = cc in absurd bad
checked_divisor s n (pos (suc k)) x y e = ((λ z. omega (arith, ints)), checked_fits s n x y e)
checked_divisor s n (negsuc k) x y e = ((λ z. omega (arith, ints)), checked_fits s n x y e)

pub checked_sign : (s : Bool) (n : ℕ) (a x y : ℤ) → Some y ≡ checked s n (by_sign a x) → (pos 0 ≤ℤ a) × InRange s n x
checked_sign s n (pos a) x y e = (omega (arith, ints), checked_fits s n x y e)
checked_sign s n (negsuc a) x y e = let bad : ⊥ = cc in absurd bad

pub ruleset guarded = (checked_fits, checked_divisor, checked_sign)
