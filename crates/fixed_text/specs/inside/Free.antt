-- Places where a byte does not occur.
use Rattle.std.specs.Prelude.{◌≡◌, ℕ, ◌<◌, List, slice_index}

-- the byte does not occur before that place
abbrev pub IsFreeUntil : List ℕ → ℕ → ℕ → Type 0
IsFreeUntil bytes byte at = (k : ℕ) → k < at → slice_index bytes k ≡ byte → ⊥
