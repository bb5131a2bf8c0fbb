-- What is read of a token, and of the tokens of a piece, is what has that text.
use Rattle.std.proofs.Common.{cond, eq-eqb, ◌≡◌, ℕ, List, [], ◌∷◌, ℤ, Bool, true, false, eqb, map, Option, Some, None, refl, sym, ap, ◌∙◌}
use Rattle.std.specs.List.{list_all}
use Rattle.std.specs.Cmp.Derive.{both_true}
use Rattle.std.proofs.lemmas.List.Splits.{join_with_byte-slice_split}
use Rattle.std.proofs.lemmas.Bool.{eqb-true}
use Rattle.std.proofs.lemmas.Option.{same_Some, none-some}
use Rattle.fixed_word.specs.Decimal.{natural_text, whole_text}
use Rattle.fixed_text.specs.declared.names.WordName.{WordName}
use Rattle.fixed_text.specs.declared.names.WordName.TheVariants.{I8, I16, I32, I64, U8, U16, U32, U64}
use Rattle.fixed_text.specs.Numbers.{natural_in, numbered_in, only_number, whole_in, wholes_in, before_others}
use Rattle.fixed_text.specs.Tokens.{tokens_of, at_end}
use Rattle.fixed_text.specs.Texts.{IsReader, no_space, numbered_text, spaced}
use Rattle.fixed_text.specs.Words.{word_name, word_named}
use Rattle.fixed_text.proofs.Joined.{split_joined, whole_no_space}
use Rattle.fixed_text.proofs.Naturals.{in_only, in_again}
use Rattle.fixed_text.proofs.Steps.{guard_some, named_takes, next_some, end_some}
use Rattle.fixed_text.proofs.Wholes.{whole_only, whole_again}

pub joined_split : (piece : List ℕ) → spaced (tokens_of piece) ≡ piece
joined_split piece = join_with_byte-slice_split 32 piece

pub wholes_no_space : (xs : List ℤ) → list_all no_space (map whole_text xs) ≡ true
wholes_no_space [] = refl
wholes_no_space (x ∷ xs) = both_true (whole_no_space x) (wholes_no_space xs)

pub word_no_space : (w : WordName) → no_space (word_name w) ≡ true
word_no_space I8 = refl
word_no_space I16 = refl
word_no_space I32 = refl
word_no_space I64 = refl
word_no_space U8 = refl
word_no_space U16 = refl
word_no_space U32 = refl
word_no_space U64 = refl

-- ---- a natural number after a letter
pub numbered_again : (letter n : ℕ) → numbered_in letter (numbered_text letter n) ≡ Some n
unfolding numbered_in
numbered_again letter n = ap (λ b. cond b (natural_in (natural_text n)) None) (eq-eqb letter letter refl) ∙ in_again n

pub numbered_only : (letter : ℕ) (t : List ℕ) (n : ℕ) → numbered_in letter t ≡ Some n → numbered_text letter n ≡ t
unfolding numbered_in
numbered_only letter [] n e = absurd (none-some n e)
numbered_only letter (c ∷ cs) n e =
    let parts = guard_some (eqb c letter) (natural_in cs) n e in
    ap (λ t. letter ∷ t) (in_only cs n parts.1) ∙ ap (λ k. k ∷ cs) (sym (eqb-true c letter parts.0))

-- ---- several wholes
pub wholes_again : (xs : List ℤ) → wholes_in (map whole_text xs) ≡ Some xs
wholes_again [] = refl
wholes_again (x ∷ xs) = ap (λ o. before_others o (wholes_in (map whole_text xs))) (whole_again x) ∙ ap (before_others (Some x)) (wholes_again xs)

pub wholes_only : (ts : List (List ℕ)) (xs : List ℤ) → wholes_in ts ≡ Some xs → map whole_text xs ≡ ts
wholes_only [] xs e = ap (map whole_text) (sym (same_Some [] xs e))
wholes_only (t ∷ ts) xs e = by_parts (whole_in t) (wholes_in ts) refl (wholes_only ts) e
  where
    by_parts : (o : Option ℤ) (os : Option (List ℤ)) → whole_in t ≡ o → ((ys : List ℤ) → os ≡ Some ys → map whole_text ys ≡ ts) → before_others o os ≡ Some xs → map whole_text xs ≡ t ∷ ts
    by_parts None os a later f = absurd (none-some xs f)
    by_parts (Some y) None a later f = absurd (none-some xs f)
    by_parts (Some y) (Some ys) a later f =
        ap (map whole_text) (sym (same_Some (y ∷ ys) xs f))
        ∙ ap (λ u. u ∷ map whole_text ys) (whole_only t y a) ∙ ap (λ us. t ∷ us) (later ys refl)

-- one whole alone
pub number_only : (ts : List (List ℕ)) (x : ℤ) → only_number ts ≡ Some x → whole_text x ∷ [] ≡ ts
unfolding only_number
number_only ts x e =
    let t = next_some whole_in ts (λ x. at_end x.1 x.0) x e in
    let done = end_some t.rest t.value x t.goes_on in
    ap (λ x. whole_text x ∷ []) (sym done.1) ∙ ap (λ token. token ∷ []) (whole_only t.token t.value t.reads) ∙ ap (λ rest. t.token ∷ rest) (sym done.0) ∙ sym t.is

-- ---- words
pub word_again : (w : WordName) → word_named (word_name w) ≡ Some w
word_again I8 = refl
word_again I16 = refl
word_again I32 = refl
word_again I64 = refl
word_again U8 = refl
word_again U16 = refl
word_again U32 = refl
word_again U64 = refl

pub word_only : (t : List ℕ) (w : WordName) → word_named t ≡ Some w → word_name w ≡ t
word_only t w e = named_takes word_name (I8 ∷ I16 ∷ I32 ∷ I64 ∷ U8 ∷ U16 ∷ U32 ∷ U64 ∷ []) t w e

pub natural_reader : IsReader natural_text natural_in
natural_reader = record { again = in_again; only = in_only }

pub whole_reader : IsReader whole_text whole_in
whole_reader = record { again = whole_again; only = whole_only }

pub numbered_reader : (letter : ℕ) → IsReader (numbered_text letter) (numbered_in letter)
numbered_reader letter = record { again = numbered_again letter; only = numbered_only letter }

pub word_reader : IsReader word_name word_named
word_reader = record { again = word_again; only = word_only }

-- ---- readers by tokens
-- at least one token, and none has a space
abbrev pub are_tokens : List (List ℕ) → Bool
are_tokens [] = false
are_tokens (t ∷ ts) = list_all no_space (t ∷ ts)

pub cut_again : (ts : List (List ℕ)) → are_tokens ts ≡ true → tokens_of (spaced ts) ≡ ts
cut_again [] e = absurd (cc)
cut_again (t ∷ ts) e = split_joined t ts e

module _ {A : Type 0} (tokens : A → List (List ℕ)) (read : List (List ℕ) → Option A) where
  pub reader : ((x : A) → are_tokens (tokens x) ≡ true) → ((x : A) → read (tokens x) ≡ Some x) → ((ts : List (List ℕ)) (x : A) → read ts ≡ Some x → tokens x ≡ ts)
      → IsReader (λ (x : A). spaced (tokens x)) (λ (piece : List ℕ). read (tokens_of piece))
  reader fine again only =
      record {
        again = λ x. ap read (cut_again (tokens x) (fine x)) ∙ again x;
        only = λ piece x e. ap spaced (only (tokens_of piece) x e) ∙ joined_split piece;
      }
