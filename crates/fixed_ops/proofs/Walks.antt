-- Walks through a list of numbers.
use Rattle.std.proofs.Common.{◌≡◌, ℕ, ℤ, Bool, List, fold}
use Rattle.fixed_ops.specs.Folds.{EachFits}

-- at `total`, with `left` to come: each further result fits, and the last of them is `whole`
pub record IsOnTheWay (signed : Bool) (n : ℕ) (step : ℤ → ℤ → ℤ) (whole total : ℤ) (left : List ℤ) : Type 0 where
  pub fits : EachFits signed n step total left
  pub ends : fold step total left ≡ whole
