-- Where a byte stands first, from the places at which it does not.
use Rattle.std.proofs.Common.{◌≡◌, ℕ, ◌<◌, ◌≤◌, ◌==◌, List, length, get_or, arith, Some, None, eq-eqb}
use Rattle.std.specs.List.{position, position_or_len}
use Rattle.std.proofs.lemmas.List.Sums.{position_or_len_is}
use Rattle.std.proofs.lemmas.Bool.{ne_eqb}
use Rattle.std.proofs.lemmas.Grind.{common_steps}
use Rattle.fixed_text.specs.inside.Free.{IsFreeUntil}

place_is : (bytes : List ℕ) (byte i : ℕ) → IsFreeUntil bytes byte i → i ≤ length bytes → (i < length bytes → get_or bytes i 0 ≡ byte) → position_or_len (λ b. b == byte) bytes ≡ i
place_is bytes byte i free within here =
    position_or_len_is (λ b. b == byte) bytes i 0 within (λ k lt. ne_eqb (get_or bytes k 0) byte (free k lt)) (λ lt. eq-eqb (get_or bytes i 0) byte (here lt))

pub stands_at : (bytes : List ℕ) (byte i : ℕ) → IsFreeUntil bytes byte i → i < length bytes → get_or bytes i 0 ≡ byte → position (λ b. b == byte) bytes ≡ Some i
stands_at bytes byte i free lt here =
    let at = place_is bytes byte i free (omega arith) (λ _. here) in grind (arith, common_steps)

pub stands_nowhere : (bytes : List ℕ) (byte : ℕ) → IsFreeUntil bytes byte (length bytes) → position (λ b. b == byte) bytes ≡ None
stands_nowhere bytes byte free =
    let at = place_is bytes byte (length bytes) free (omega arith) (λ lt. absurd (omega arith)) in grind (arith, common_steps)
