-- How long texts are.
use Rattle.std.proofs.Common.{ℕ, zero, suc, ◌+◌, ◌^◌, ◌<◌, ◌≤◌, List, [], ◌∷◌, length, get_or, ℤ, pos, negsuc, nat_abs, ap, ◌∙◌, arith}
use Rattle.std.proofs.lemmas.Int.Digits.{length-digits_of-le, first_digits_of}
use Rattle.std.proofs.lemmas.List.{length-map}
use Rattle.std.specs.Int.Digits.{digits_of}
use Rattle.fixed_word.specs.Decimal.{natural_text, whole_text}
use Rattle.fixed_digits.proofs.Decimals.{text_above, natural_text_zero}

pub length_natural : (k n : ℕ) → 0 < k → n < 10 ^ k → length (natural_text n) ≤ k
length_natural k zero some lt = rw natural_text_zero (omega arith)
length_natural k (suc n) some lt =
    let shown = ap length (text_above (suc n) (omega arith)) ∙ length-map (digits_of 10 (suc n)) (λ d. 48 + d) in
    omega (arith, shown, length-digits_of-le 10 k (suc n) (omega arith) lt)

pub length_natural_some : (n : ℕ) → 1 ≤ length (natural_text n)
length_natural_some zero = rw natural_text_zero (omega arith)
length_natural_some (suc n) =
    let shown = ap length (text_above (suc n) (omega arith)) ∙ length-map (digits_of 10 (suc n)) (λ d. 48 + d) in
    omega (arith, shown, some (digits_of 10 (suc n)) (first_digits_of 10 (suc n) (omega arith) (omega arith)))
  where
    some : (ds : List ℕ) → 0 < get_or ds 0 0 → 1 ≤ length ds
    some [] above = omega arith
    some (d ∷ ds) above = omega arith

pub length_whole : (z : ℤ) → nat_abs z < 2 ^ 64 → length (whole_text z) ≤ 21
length_whole (pos n) lt = let le : length (natural_text n) ≤ 20 = length_natural 20 n (omega arith) (omega arith) in omega arith
length_whole (negsuc n) lt = let le : length (natural_text (suc n)) ≤ 20 = length_natural 20 (suc n) (omega arith) (omega arith) in omega arith
