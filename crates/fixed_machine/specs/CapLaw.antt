-- The cap at 2 ^ 64 changes nothing.
use Rattle.std.specs.Prelude.{◌≡◌, ◌≤◌, ◌^◌, ℕ, length, None}
use Rattle.fixed_script.specs.Text.{ScriptLine}
use Rattle.fixed_script.specs.Capped.{capped}
use Rattle.fixed_machine.specs.Machine.{State, cause, answer, move}

-- 2 ^ 64 is not a value of a word and not a declared register
abbrev pub CapsAlike : Type 0
CapsAlike = (s : State) (line : ScriptLine) (k : ℕ) → length s.registers ≤ 2 ^ 64
    → (cause s (capped line) k ≡ cause s line k) × (cause s line k ≡ None → (answer s (capped line) ≡ answer s line) × (move s (capped line) ≡ move s line))
