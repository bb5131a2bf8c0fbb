-- How far off sums may be, in units of 2^-64, and the same as the power of 2 that a contract allows.
use Rattle.std.proofs.Common.{◌≡◌, ◌*◌, ◌^◌, ◌<◌, ℕ, Bool, true, false, refl, arith}
use Rattle.std.specs.Prelude.{nat_le, if◌then◌else◌}
use Rattle.fixed_turns.specs.Angles.{turn_room}
use Rattle.fixed_turns.specs.Sines.{sine_room}
use Rattle.fixed_turns.specs.inside.Rests.{reach}

room_if : (b : Bool) → (0 < (if b then 2 ^ 23 else 2 ^ 3)) × (((if b then 2 ^ 23 else 2 ^ 3) * 2 ^ (if b then 41 else 61) ≡ 2 ^ 64) × (2 * (if b then 2 ^ 23 else 2 ^ 3) * 2 ^ (if b then 40 else 60) ≡ 2 ^ 64))
room_if true = (omega arith, (refl, refl))
room_if false = (omega arith, (refl, refl))

pub room : (bits : ℕ) → (0 < reach bits) × ((reach bits * 2 ^ sine_room bits ≡ 2 ^ 64) × (2 * reach bits * 2 ^ turn_room bits ≡ 2 ^ 64))
room bits = room_if (nat_le bits 32)
