-- Digits put into a buffer from its end.
use Rattle.std.proofs.Common.{◌≡◌, ℕ, ◌-◌, ◌+◌, ◌<◌, ◌≤◌, ◌^◌, List, ◌∷◌, ◌++◌, length, drop, set, ap, sym, ◌∙◌, append_assoc, arith}
use Rattle.std.proofs.lemmas.List.{drop-set}
use Rattle.fixed_word.specs.Decimal.{natural_text}
use Rattle.fixed_digits.proofs.Lengths.{length_natural}

-- a number of 64 bits has at most 20 digits
pub length_natural_u64 : (n : ℕ) → n < 2 ^ 64 → length (natural_text n) ≤ 20
length_natural_u64 n h = length_natural 20 n (omega arith) (omega arith)

-- a digit written before those that stand from `at` on
pub put_digit : (buffer : List ℕ) (at d : ℕ) → 1 ≤ at → at ≤ length buffer → drop (at - 1) (set buffer (at - 1) d) ≡ d ∷ drop at buffer
put_digit buffer at d one within =
    let back : at - 1 + 1 ≡ at = omega arith in
    drop-set buffer (at - 1) d (omega arith) ∙ ap (λ k. d ∷ drop k buffer) back

-- the front of a text before its back
pub joined : (text front back behind rest : List ℕ) → text ≡ front ++ back → behind ≡ back ++ rest → front ++ behind ≡ text ++ rest
joined text front back behind rest whole placed =
    ap (λ (ds : List ℕ). front ++ ds) placed ∙ sym (append_assoc front back rest) ∙ ap (λ (ds : List ℕ). ds ++ rest) (sym whole)
