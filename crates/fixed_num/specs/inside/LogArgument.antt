-- The part of a number of which a logarithm is taken.
use Rattle.std.specs.Prelude.{◌≡◌, ◌-◌, ◌*◌, ◌/◌, ◌^◌, ◌≤◌, ℕ, ℤ, nat_abs}
use Rattle.fixed_num.specs.declared.log_argument.LogArgument.{LogArgument}
use Rattle.fixed_num.specs.declared.log_argument.LogArgument.TheVariants.{Whole, Raised}

-- of a / 2 ^ f in a word of n digits: its whole part, where that is not 0, or a raised to all n digits
abbrev pub IsLogArgument : {D : Type 0} → (D → ℤ) → ℕ → ℕ → ℕ → LogArgument D → Type 0
IsLogArgument value n a f (Whole w) = (2 ^ f ≤ a) × (nat_abs (value w) ≡ a / 2 ^ f)
IsLogArgument value n a f (Raised r) = nat_abs (value r) ≡ a * 2 ^ (n - f)
