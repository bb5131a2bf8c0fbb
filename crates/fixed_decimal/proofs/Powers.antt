-- The table of powers of ten.
use Rattle.std.proofs.Common.{◌≡◌, ℕ, zero, suc, ◌-◌, ◌^◌, ◌<◌, Bool, true, ◌&&◌, T, eqb, get_or, inl, inr, arith, eq-zero-or-pos, eqb→eq}
use lib.Ieee.Fits.{and_l, and_r}
use Rattle.fixed_decimal.specs.declared.tens.TheConstants.{TENS}

abbrev are_tens : ℕ → Bool
are_tens zero = true
are_tens (suc k) = eqb (get_or TENS k 0) (10 ^ k) && are_tens k

ten_below : (n k : ℕ) → T (are_tens n) → k < n → get_or TENS k 0 ≡ 10 ^ k
ten_below zero k t lt = absurd (omega arith)
ten_below (suc n) k t lt =
    elim (eq-zero-or-pos (n - k)) [
      | inl z ↦ let e : k ≡ n = omega arith in rw e (eqb→eq _ _ (and_l _ (are_tens n) t))
      | inr g ↦ ten_below n k (and_r _ (are_tens n) t) (omega arith)
    ]

-- each power of ten that 64 bits hold stands at its place
pub tens : (k : ℕ) → k < 20 → get_or TENS k 0 ≡ 10 ^ k
tens k lt = ten_below 20 k tt lt
