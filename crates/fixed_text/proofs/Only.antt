-- A number that is alone in its bytes.
use Rattle.std.proofs.Common.{◌≡◌, ℕ, ℤ, List, [], ◌∷◌, Option, Some, None, refl, ap, subst, ◌∙◌}
use Rattle.fixed_word.specs.Decimal.{whole_text}
use Rattle.fixed_text.specs.Numbers.{only_number, whole_in}
use Rattle.fixed_text.specs.Texts.{spaced}
use Rattle.fixed_text.specs.Tokens.{tokens_of}
use Rattle.fixed_text.proofs.Joined.{split_joined, whole_no_space}
use Rattle.fixed_text.proofs.Readers.{joined_split}
use Rattle.fixed_text.proofs.Wholes.{whole_only}

one_token : (t : List ℕ) (o : Option ℤ) → whole_in t ≡ o → only_number (t ∷ []) ≡ o
unfolding only_number
one_token t None e = rw e refl
one_token t (Some x) e = rw e refl

-- without a number, and with more tokens than one, there is none
none_only : (ts : List (List ℕ)) → whole_in (spaced ts) ≡ None → only_number ts ≡ None
unfolding only_number
none_only [] e = refl
none_only (t ∷ []) e = one_token t None e
none_only (t ∷ u ∷ us) e = by_first (whole_in t) refl
  where
    by_first : (o : Option ℤ) → whole_in t ≡ o → only_number (t ∷ u ∷ us) ≡ None
    by_first None is = rw is refl
    by_first (Some x) is = rw is refl

pub only_of_rest : (rest : List ℕ) → only_number (tokens_of rest) ≡ whole_in rest
only_of_rest rest = by_number (whole_in rest) refl
  where
    by_number : (o : Option ℤ) → whole_in rest ≡ o → only_number (tokens_of rest) ≡ o
    by_number None e = none_only (tokens_of rest) (ap whole_in (joined_split rest) ∙ e)
    by_number (Some x) e =
        let text = whole_only rest x e in
        let alone : tokens_of rest ≡ rest ∷ [] = subst (λ (t : List ℕ). tokens_of t ≡ t ∷ []) text (split_joined (whole_text x) [] (rw (whole_no_space x) refl)) in
        ap only_number alone ∙ one_token rest (Some x) e

pub nothing_only : only_number [] ≡ None
unfolding only_number
nothing_only = refl
