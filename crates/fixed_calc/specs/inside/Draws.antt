-- The generator of a demonstration, step by step.
use Rattle.std.specs.Prelude.{ℕ, ◌+◌, ◌*◌, ◌/◌, ◌%◌, ◌^◌}

abbrev pub next_state : ℕ → ℕ
next_state x = (6364136223846793005 * x + 1442695040888963407) % 2 ^ 64

-- what a state draws: all but its 33 lowest bits
abbrev pub draw : ℕ → ℕ
draw x = x / 2 ^ 33
