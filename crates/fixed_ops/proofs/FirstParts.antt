-- A walk through a list, and its first parts.
use Rattle.std.proofs.Common.{◌↔◌, ◌<◌, ◌≤◌, ℕ, ℤ, zero, suc, Bool, List, [], ◌∷◌, fold, length, take, arith}
use Rattle.fixed_word.specs.Format.{InRange}
use Rattle.fixed_ops.specs.Folds.{EachFits}

part_fits : (s : Bool) (n : ℕ) (step : ℤ → ℤ → ℤ) (from : ℤ) (xs : List ℤ) → EachFits s n step from xs → (k : ℕ) → 0 < k → k ≤ length xs → InRange s n (fold step from (take k xs))
part_fits s n step from [] h k p q = absurd (omega arith)
part_fits s n step from (x ∷ xs) h zero p q = absurd (omega arith)
part_fits s n step from (x ∷ xs) h (suc zero) p q = h.0
part_fits s n step from (x ∷ xs) h (suc (suc k)) p q = part_fits s n step (step from x) xs h.1 (suc k) (omega arith) (omega arith)

each_fits : (s : Bool) (n : ℕ) (step : ℤ → ℤ → ℤ) (from : ℤ) (xs : List ℤ) → ((k : ℕ) → 0 < k → k ≤ length xs → InRange s n (fold step from (take k xs))) → EachFits s n step from xs
each_fits s n step from [] h = tt
each_fits s n step from (x ∷ xs) h = (h 1 (omega arith) (omega arith), each_fits s n step (step from x) xs (λ k p q. h (suc k) (omega arith) (omega arith)))

pub first_parts : (s : Bool) (n : ℕ) (step : ℤ → ℤ → ℤ) (from : ℤ) (xs : List ℤ) → EachFits s n step from xs ↔ ((k : ℕ) → 0 < k → k ≤ length xs → InRange s n (fold step from (take k xs)))
first_parts s n step from xs = (part_fits s n step from xs, each_fits s n step from xs)
