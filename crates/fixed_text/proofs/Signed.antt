-- The text of a whole number, which ends a buffer of 22 bytes.
use Rattle.std.proofs.Common.{◌≡◌, ◌+◌, ◌-◌, ◌≤◌, ◌<ℤ◌, ◌≤ℤ◌, ℕ, ℤ, pos, negsuc, unsigned_abs, List, [], ◌∷◌, ◌++◌, length, take, drop, set, ap, ◌∙◌, arith}
use Rattle.std.proofs.lemmas.Grind.{common_steps}
use Rattle.std.proofs.lemmas.Int.{ints}
use Rattle.std.proofs.lemmas.List.{drop-set}
use Rattle.fixed_word.specs.Decimal.{natural_text, whole_text}

pub text_below : (x : ℤ) (m : ℕ) → x <ℤ pos 0 → m ≡ unsigned_abs x → 45 ∷ natural_text m ≡ whole_text x
text_below (pos n) m h e = absurd (omega (arith, ints))
text_below (negsuc n) m h e = ap (λ (k : ℕ). 45 ∷ natural_text k) e

pub text_from_zero : (x : ℤ) (m : ℕ) → pos 0 ≤ℤ x → m ≡ unsigned_abs x → natural_text m ≡ whole_text x
text_from_zero (pos n) m h e = ap natural_text e
text_from_zero (negsuc n) m h e = absurd (omega (arith, ints))

-- digits and a byte leave room for a minus
pub room_for_minus : (buffer digits : List ℕ) (at byte : ℕ) → length buffer ≡ 22 → drop at buffer ≡ digits ++ (byte ∷ []) → length digits ≤ 20 → 1 ≤ at
room_for_minus buffer digits at byte n e most = grind (arith, common_steps, ap length e)

-- what is behind a minus that is put there
pub minus_put : (buffer text : List ℕ) (at : ℕ) → length buffer ≡ 22 → 1 ≤ at → at ≤ 21 → drop at buffer ≡ text → take (22 - (at - 1)) (drop (at - 1) (set buffer (at - 1) 45)) ≡ 45 ∷ text
minus_put buffer text at n some most e =
    let back : at - 1 + 1 ≡ at = omega arith in
    let put = drop-set buffer (at - 1) 45 (omega arith) in
    let whole : take (22 - (at - 1)) (drop (at - 1) (set buffer (at - 1) 45)) ≡ drop (at - 1) (set buffer (at - 1) 45) = grind (arith, common_steps) in
    whole ∙ put ∙ ap (λ (k : ℕ). 45 ∷ drop k buffer) back ∙ ap (λ (t : List ℕ). 45 ∷ t) e
