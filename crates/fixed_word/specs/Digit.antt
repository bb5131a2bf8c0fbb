-- What the calls of unsigned words answer.
use Rattle.std.specs.Prelude.{◌≡◌, ◌^◌, ◌-◌, ◌≤◌, ◌≤ℤ◌, ◌<ℤ◌, ◌+ℤ◌, ℕ, ℤ, pos, false, Option, Some, None}
use Rattle.fixed_word.specs.Format.{highest}

-- of the n bits of x the k highest are 0, and the next is not
abbrev pub IsLeadingZeros : ℕ → ℤ → ℕ → Type 0
IsLeadingZeros n x k = (k ≤ n) × (x <ℤ pos (2 ^ (n - k))) × (pos (2 ^ (n - k)) ≤ℤ (x +ℤ x +ℤ pos 1))

-- the word of the number x, and nothing exactly where x is too large for a word
abbrev pub IsWordOf : {T : Type 0} → (T → ℤ) → ℕ → ℤ → Option T → Type 0
IsWordOf value n x (Some w) = (value w ≡ x) × (x ≤ℤ highest false n)
IsWordOf value n x None = highest false n <ℤ x
