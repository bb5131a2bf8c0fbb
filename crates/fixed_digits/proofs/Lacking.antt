-- Texts that lack a byte.
use Rattle.std.proofs.Common.{◌≡◌, ℕ, suc, ℤ, pos, negsuc, Bool, true, false, not, eqb, cond, List, [], ◌∷◌, map, refl, sym, ap, ◌∙◌, arith}
use Rattle.std.specs.Char.{is_ascii_digit}
use Rattle.std.specs.List.{list_all, join_with_byte, count_by}
use Rattle.std.specs.Cmp.Derive.{both_true}
use Rattle.std.proofs.lemmas.Bool.{eqb-true, false≢true}
use Rattle.std.proofs.lemmas.List.Folds.{list_all-append}
use Rattle.std.proofs.lemmas.List.Sums.{sum_by-cons}
use Rattle.fixed_word.specs.Decimal.{natural_text, whole_text}
use Rattle.fixed_digits.specs.Numerals.{is_decimal}
use Rattle.fixed_digits.proofs.Decimals.{decimal_of_text, both}

abbrev pub lacks : ℕ → List ℕ → Bool
lacks c t = list_all (λ b. not (eqb b c)) t

digit_differs : (c x : ℕ) (b : Bool) → eqb x c ≡ b → is_ascii_digit c ≡ false → is_ascii_digit x ≡ true → not b ≡ true
digit_differs c x true is other digit = sym (ap is_ascii_digit (eqb-true x c is) ∙ other) ∙ digit
digit_differs c x false is other digit = refl

digits_lack : (c : ℕ) (t : List ℕ) → is_ascii_digit c ≡ false → list_all is_ascii_digit t ≡ true → lacks c t ≡ true
digits_lack c [] other digits = refl
digits_lack c (x ∷ xs) other digits =
    let parts = both (is_ascii_digit x) (list_all is_ascii_digit xs) digits in
    both_true (digit_differs c x (eqb x c) refl other parts.0) (digits_lack c xs other parts.1)

decimal_lacks : (c : ℕ) (t : List ℕ) → is_ascii_digit c ≡ false → is_decimal t ≡ true → lacks c t ≡ true
decimal_lacks c [] other e = refl
decimal_lacks c (x ∷ xs) other e = digits_lack c (x ∷ xs) other (both _ (list_all is_ascii_digit (x ∷ xs)) e).1

-- a decimal has digits alone
pub natural_lacks : (c n : ℕ) → is_ascii_digit c ≡ false → lacks c (natural_text n) ≡ true
natural_lacks c n other = decimal_lacks c (natural_text n) other (decimal_of_text n).0

pub whole_lacks : (c : ℕ) (k : ℤ) → is_ascii_digit c ≡ false → eqb 45 c ≡ false → lacks c (whole_text k) ≡ true
whole_lacks c (pos n) other minus = natural_lacks c n other
whole_lacks c (negsuc n) other minus = both_true (ap not minus) (natural_lacks c (suc n) other)

pub naturals_lack : (c : ℕ) (ns : List ℕ) → is_ascii_digit c ≡ false → list_all (lacks c) (map natural_text ns) ≡ true
naturals_lack c [] other = refl
naturals_lack c (n ∷ ns) other = both_true (natural_lacks c n other) (naturals_lack c ns other)

-- tokens that lack a newline, with spaces between them
pub joined_lack : (ts : List (List ℕ)) → list_all (lacks 10) ts ≡ true → lacks 10 (join_with_byte 32 ts) ≡ true
joined_lack [] e = refl
joined_lack (t ∷ []) e = (both (lacks 10 t) true e).0
joined_lack (t ∷ u ∷ ts) e =
    let parts = both (lacks 10 t) (list_all (lacks 10) (u ∷ ts)) e in
    list_all-append (λ b. not (eqb b 10)) t (32 ∷ join_with_byte 32 (u ∷ ts)) ∙ both_true parts.0 (joined_lack (u ∷ ts) parts.1)

-- the byte is not counted
pub count_lacks : (c : ℕ) (t : List ℕ) → lacks c t ≡ true → count_by (λ b. eqb b c) t ≡ 0
count_lacks c [] e = refl
count_lacks c (x ∷ xs) e =
    let parts = both (not (eqb x c)) (lacks c xs) e in
    let later = count_lacks c xs parts.1 in
    let first = not_counted (eqb x c) parts.0 in
    sum_by-cons (λ b. cond (eqb b c) 1 0) x xs ∙ omega (arith, later, first)
  where
    not_counted : (b : Bool) → not b ≡ true → ◌≡◌ {A = ℕ} (cond b 1 0) 0
    not_counted true h = absurd (false≢true h)
    not_counted false h = refl
