-- What has the text of a piece is read as it.
use Rattle.std.proofs.Common.{◌≡◌, ℕ, suc, ℤ, pos, negsuc, neg_ℤ, List, [], ◌∷◌, map, drop, Option, Some, None, Bool, true, false, if◌then◌else◌, refl, sym, ap, rules, ◌∙◌}
use Rattle.std.specs.Str.{bytes_eq}
use Rattle.std.specs.Str.Parse.{digits_value}
use Rattle.std.proofs.lemmas.Slice.Eq.{bytes_eq-Decides}
use Rattle.std.proofs.lemmas.Option.{same_Some}
use Rattle.fixed_word.specs.Decimal.{natural_text, whole_text}
use Rattle.fixed_digits.proofs.Capping.{no_minus}
use Rattle.fixed_digits.proofs.Decimals.{decimal_of_text}
use Rattle.fixed_text.specs.Inverse.{whole_value, if_its_text}
use Rattle.fixed_text.specs.Texts.{IsReader, spaced}
use Rattle.fixed_text.specs.Tokens.{tokens_of}
use Rattle.fixed_text.proofs.Readers.{are_tokens, cut_again}

-- ---- numbers
pub natural_back : (n : ℕ) → digits_value 10 (natural_text n) ≡ n
natural_back n = (decimal_of_text n).1

pub whole_back : (k : ℤ) → whole_value (whole_text k) ≡ k
whole_back (pos n) = ap (λ (b : Bool). if b then neg_ℤ (pos (digits_value 10 (drop 1 (natural_text n)))) else pos (digits_value 10 (natural_text n))) (no_minus (natural_text n) (decimal_of_text n).0) ∙ ap pos (natural_back n)
whole_back (negsuc n) = ap (λ (m : ℕ). neg_ℤ (pos m)) (natural_back (suc n))

pub wholes_back : (ks : List ℤ) → map whole_value (map whole_text ks) ≡ ks
wholes_back [] = refl
wholes_back (k ∷ ks) = ap (λ (m : ℤ). m ∷ map whole_value (map whole_text ks)) (whole_back k) ∙ ap (λ (ms : List ℤ). k ∷ ms) (wholes_back ks)

-- ---- what has the text of the piece
pub its_text : {A : Type 0} (text : A → List ℕ) (piece : List ℕ) (read : Option A) (x : A) → if_its_text text piece read ≡ Some x → (read ≡ Some x) × (text x ≡ piece)
its_text text piece None x e = cc
its_text text piece (Some y) x e = by_test (bytes_eq (text y) piece) refl e
  where
    by_test : (b : Bool) → bytes_eq (text y) piece ≡ b → (if b then Some y else None) ≡ Some x → (Some y ≡ Some x) × (text x ≡ piece)
    by_test false is e = cc
    by_test true is e = (e, ap text (sym (same_Some y x e)) ∙ (bytes_eq-Decides (text y) piece).0 is)

pub has_text : {A : Type 0} (text : A → List ℕ) (piece : List ℕ) (read : Option A) (x : A) → read ≡ Some x → text x ≡ piece → if_its_text text piece read ≡ Some x
has_text text piece read x is e = ap (if_its_text text piece) is ∙ ap (λ (b : Bool). if b then Some x else None) (same (text x) piece e)
  where
    same : (xs ys : List ℕ) → xs ≡ ys → bytes_eq xs ys ≡ true
    same xs ys e = search (rules, bytes_eq-Decides)

-- ---- by tokens
module _ {A : Type 0} (tokens : A → List (List ℕ)) (found : List (List ℕ) → Option A) where
  pub inverse_reader : ((x : A) → are_tokens (tokens x) ≡ true) → ((x : A) → found (tokens x) ≡ Some x)
      → IsReader (λ (x : A). spaced (tokens x)) (λ (piece : List ℕ). if_its_text (λ (x : A). spaced (tokens x)) piece (found (tokens_of piece)))
  inverse_reader fine back =
      let text : A → List ℕ = λ x. spaced (tokens x) in
      record {
        again = λ x. has_text text (text x) (found (tokens_of (text x))) x (ap found (cut_again (tokens x) (fine x)) ∙ back x) refl;
        only = λ piece x e. (its_text text piece (found (tokens_of piece)) x e).1;
      }

-- a text has one reader
module _ {A : Type 0} (text : A → List ℕ) (one other : List ℕ → Option A) (a : IsReader text one) (b : IsReader text other) (piece : List ℕ) where
  by_parts : (o p : Option A) → one piece ≡ o → other piece ≡ p → o ≡ p
  by_parts (Some x) p is also = sym (b.again x) ∙ ap other (a.only piece x is) ∙ also
  by_parts None (Some y) is also = sym is ∙ ap one (sym (b.only piece y also)) ∙ a.again y
  by_parts None None is also = refl

  pub one_reader : one piece ≡ other piece
  one_reader = by_parts (one piece) (other piece) refl refl
