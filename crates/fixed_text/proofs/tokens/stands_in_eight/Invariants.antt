use Rattle.std.proofs.Common.{◌≡◌, ◌<◌, ◌+◌, ℕ, get_or, false}
use Rattle.fixed_text.proofs.tokens.stands_in_eight.Given as goal

-- if the byte was not seen, it stands at none of the places so far
abbrev pub invariant-loop-b : goal.invariant-loop-b
invariant-loop-b l = l.stands ≡ false → (k : ℕ) → k < l.b-index → get_or l.bytes (l.at + k) 0 ≡ l.byte → ⊥
