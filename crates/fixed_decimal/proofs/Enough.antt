-- Digits enough behind the point.
use Rattle.std.proofs.Common.{◌≡◌, ℕ, zero, suc, ◌+◌, ◌-◌, ◌*◌, ◌/◌, ◌^◌, ◌<◌, ◌≤◌, Bool, true, ◌&&◌, T, leb, leb→le, inl, inr, arith, eq-zero-or-pos}
use lib.Ieee.Fits.{and_l, and_r}

abbrev are_enough : ℕ → Bool
are_enough zero = true
are_enough (suc f) = leb (2 ^ f) (10 ^ (f * 3 / 10 + 1)) && are_enough f

enough_below : (n f : ℕ) → T (are_enough n) → f < n → 2 ^ f ≤ 10 ^ (f * 3 / 10 + 1)
enough_below zero f t lt = absurd (omega arith)
enough_below (suc n) f t lt =
    elim (eq-zero-or-pos (n - f)) [
      | inl z ↦ let e : f ≡ n = omega arith in rw e (leb→le _ _ (and_l _ (are_enough n) t))
      | inr g ↦ enough_below n f (and_r _ (are_enough n) t) (omega arith)
    ]

pub enough : (f : ℕ) → f ≤ 64 → 2 ^ f ≤ 10 ^ (f * 3 / 10 + 1)
enough f le = enough_below 65 f tt (omega arith)
