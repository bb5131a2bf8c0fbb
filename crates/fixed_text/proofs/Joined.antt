-- Tokens without spaces, joined by spaces and cut at spaces, are those tokens.
use Rattle.std.proofs.Common.{◌≡◌, ℕ, suc, List, [], ◌∷◌, ℤ, pos, negsuc, Bool, true, false, not, ◌||◌, eqb, refl, ap, ◌∙◌, arith, length}
use Rattle.std.specs.Char.{is_ascii_digit}
use Rattle.std.specs.List.{list_all, join_with_byte, All}
use Rattle.std.specs.Cmp.Derive.{both_true}
use Rattle.std.proofs.lemmas.List.Splits.{slice_split_none, slice_split_at}
use Rattle.std.proofs.lemmas.List.Sums.{AllPass-from_list_all}
use Rattle.std.proofs.lemmas.Grind.{common_steps}
use Rattle.fixed_word.specs.Decimal.{natural_text, whole_text}
use Rattle.fixed_text.specs.Tokens.{tokens_of}
use Rattle.fixed_digits.specs.Numerals.{is_decimal}
use Rattle.fixed_digits.proofs.Decimals.{decimal_of_text, both}

abbrev pub no_space : List ℕ → Bool
no_space t = list_all (λ b. not (eqb b 32)) t

abbrev pub all_no_space : List (List ℕ) → Bool
all_no_space ts = list_all no_space ts

none_at : (t : List ℕ) → no_space t ≡ true → All (λ b. eqb b 32 ≡ false) t
none_at t e = λ k d lt. not_true (AllPass-from_list_all (λ b. not (eqb b 32)) t e k d lt)
  where
    not_true : {b : Bool} → not b ≡ true → b ≡ false
    not_true {b} e = grind (arith, e)

pub split_joined : (t : List ℕ) (ts : List (List ℕ)) → all_no_space (t ∷ ts) ≡ true → tokens_of (join_with_byte 32 (t ∷ ts)) ≡ t ∷ ts
split_joined t [] e = slice_split_none (λ b. eqb b 32) t (none_at t (both (no_space t) true e).0)
split_joined t (u ∷ ts) e =
    let parts = both (no_space t) (all_no_space (u ∷ ts)) e in
    slice_split_at (λ b. eqb b 32) t 32 (join_with_byte 32 (u ∷ ts)) (none_at t parts.0) refl ∙ ap (λ us. t ∷ us) (split_joined u ts parts.1)

-- no decimal has a space
digits_no_space : (t : List ℕ) → list_all is_ascii_digit t ≡ true → no_space t ≡ true
digits_no_space [] e = refl
digits_no_space (c ∷ cs) e =
    let parts = both (is_ascii_digit c) (list_all is_ascii_digit cs) e in
    let digit : is_ascii_digit c ≡ true = parts.0 in
    let first : not (eqb c 32) ≡ true = grind (arith, common_steps) in
    both_true first (digits_no_space cs parts.1)

decimal_no_space : (t : List ℕ) → is_decimal t ≡ true → no_space t ≡ true
decimal_no_space [] e = refl
decimal_no_space (c ∷ cs) e = digits_no_space (c ∷ cs) (both (not (eqb c 48) || eqb (length cs) 0) (list_all is_ascii_digit (c ∷ cs)) e).1

pub natural_no_space : (n : ℕ) → no_space (natural_text n) ≡ true
natural_no_space n = decimal_no_space (natural_text n) (decimal_of_text n).0

pub whole_no_space : (k : ℤ) → no_space (whole_text k) ≡ true
whole_no_space (pos n) = natural_no_space n
whole_no_space (negsuc n) = natural_no_space (suc n)
