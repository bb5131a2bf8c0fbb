-- The text of a header or a line is read as it, and only that.
use Rattle.std.proofs.Common.{◌≡◌, ℕ, ℤ, List, [], ◌∷◌, Option, Some, None, Bool, true, false, cond, codes, refl, sym, ap, ◌∙◌}
use Rattle.std.specs.Option.{option_map}
use Rattle.std.specs.Str.{bytes_eq}
use Rattle.std.specs.Cmp.Derive.{both_true}
use Rattle.std.proofs.lemmas.Option.{same_Some, none-some}
use Rattle.std.proofs.lemmas.Slice.Eq.{bytes_eq-Decides}
use Rattle.fixed_word.specs.Decimal.{natural_text}
use Rattle.fixed_text.specs.Numbers.{natural_in, only_number, wholes_in}
use Rattle.fixed_text.specs.Texts.{IsReader}
use Rattle.fixed_text.specs.Tokens.{◌>>=◌, tokens_of, next_by, at_end}
use Rattle.fixed_text.specs.Words.{word_name, word_named}
use Rattle.fixed_text.proofs.Joined.{natural_no_space, whole_no_space}
use Rattle.fixed_text.proofs.Readers.{are_tokens, reader, word_no_space, wholes_no_space, word_again, word_only, wholes_again, wholes_only, number_only}
use Rattle.fixed_text.proofs.Inverses.{natural_back, whole_back, wholes_back, inverse_reader, one_reader}
use Rattle.fixed_text.proofs.Naturals.{in_again, in_only}
use Rattle.fixed_text.proofs.Steps.{led_only, next_some, end_some}
use Rattle.fixed_text.proofs.Wholes.{whole_again}
use Rattle.fixed_poly.specs.Text.{PolyHeader, PolyLine, Coefs, At, header_tokens, header_text, line_tokens, line_text}
use Rattle.fixed_poly.specs.Lines.{header_in, header_of, line_in, line_of}
use Rattle.fixed_poly.specs.inside.Parser.{format_at, header_at, coefs_of, line_at}

-- ---- a header
header_fine : (h : PolyHeader) → are_tokens (header_tokens h) ≡ true
header_fine h = both_true refl (both_true (word_no_space h.word) (both_true (natural_no_space h.frac) refl))

header_again : (h : PolyHeader) → header_at (header_tokens h) ≡ Some h
unfolding header_at format_at
header_again h = rw (word_again h.word, in_again h.frac) refl

abbrev format_tokens : PolyHeader → List (List ℕ)
format_tokens h = word_name h.word ∷ natural_text h.frac ∷ []

format_only : (ts : List (List ℕ)) (h : PolyHeader) → format_at ts ≡ Some h → format_tokens h ≡ ts
unfolding format_at
format_only ts h e =
    let t = next_some word_named ts (λ word. next_by natural_in word.1 >>= λ frac. at_end frac.1 (record { word = word.0; frac = frac.0 })) h e in
    let u = next_some natural_in t.rest (λ frac. at_end frac.1 (record { word = t.value; frac = frac.0 })) h t.goes_on in
    let done = end_some u.rest (record { word = t.value; frac = u.value }) h u.goes_on in
    ap format_tokens (sym done.1)
    ∙ ap (λ name. name ∷ natural_text u.value ∷ []) (word_only t.token t.value t.reads)
    ∙ ap (λ frac. t.token ∷ frac ∷ []) (in_only u.token u.value u.reads)
    ∙ ap (λ rest. t.token ∷ u.token ∷ rest) (sym done.0) ∙ ap (λ rest. t.token ∷ rest) (sym u.is) ∙ sym t.is

header_only : (ts : List (List ℕ)) (h : PolyHeader) → header_at ts ≡ Some h → header_tokens h ≡ ts
unfolding header_at
header_only ts h e = led_only (codes "poly") format_at format_tokens ts h (λ rest is. format_only rest h is) e

header_back : (h : PolyHeader) → header_in (header_tokens h) ≡ Some h
header_back h = rw (word_again h.word, natural_back h.frac) refl

pub header_reader : IsReader header_text header_of
unfolding header_of
header_reader = inverse_reader header_tokens header_in header_fine header_back

pub header_parsed : (piece : List ℕ) → header_of piece ≡ header_at (tokens_of piece)
header_parsed piece = one_reader header_text header_of (λ p. header_at (tokens_of p)) header_reader (reader header_tokens header_at header_fine header_again header_only) piece

-- ---- a line
line_fine : (l : PolyLine) → are_tokens (line_tokens l) ≡ true
line_fine (Coefs c cs) = both_true refl (wholes_no_space (c ∷ cs))
line_fine (At x) = both_true refl (both_true (whole_no_space x) refl)

line_again : (l : PolyLine) → line_at (line_tokens l) ≡ Some l
unfolding line_at only_number
line_again (Coefs c cs) = ap coefs_of (wholes_again (c ∷ cs))
line_again (At x) = rw (whole_again x) refl

coefs_only : (ts : List (List ℕ)) (l : PolyLine) (o : Option (List ℤ)) → wholes_in ts ≡ o → coefs_of o ≡ Some l → line_tokens l ≡ codes "coefs" ∷ ts
coefs_only ts l None is e = absurd (none-some l e)
coefs_only ts l (Some []) is e = absurd (none-some l e)
coefs_only ts l (Some (c ∷ cs)) is e = ap line_tokens (sym (same_Some (Coefs c cs) l e)) ∙ ap (λ rest. codes "coefs" ∷ rest) (wholes_only ts (c ∷ cs) is)

at_only : (ts : List (List ℕ)) (l : PolyLine) (o : Option ℤ) → only_number ts ≡ o → option_map At o ≡ Some l → line_tokens l ≡ codes "at" ∷ ts
at_only ts l None is e = absurd (none-some l e)
at_only ts l (Some x) is e = ap line_tokens (sym (same_Some (At x) l e)) ∙ ap (λ rest. codes "at" ∷ rest) (number_only ts x is)

-- what a name begins, by what it is
by_name : (name : List ℕ) (rest : List (List ℕ)) (l : PolyLine) (b c : Bool) → bytes_eq name (codes "coefs") ≡ b → bytes_eq name (codes "at") ≡ c → cond b (coefs_of (wholes_in rest)) (cond c (option_map At (only_number rest)) None) ≡ Some l → line_tokens l ≡ name ∷ rest
by_name name rest l true c is other e = coefs_only rest l (wholes_in rest) refl e ∙ ap (λ name. name ∷ rest) (sym ((bytes_eq-Decides name (codes "coefs")).0 is))
by_name name rest l false true other is e = at_only rest l (only_number rest) refl e ∙ ap (λ name. name ∷ rest) (sym ((bytes_eq-Decides name (codes "at")).0 is))
by_name name rest l false false other also e = absurd (none-some l e)

line_only : (ts : List (List ℕ)) (l : PolyLine) → line_at ts ≡ Some l → line_tokens l ≡ ts
unfolding line_at
line_only ts l e =
    let t = next_some Some ts (λ name. cond (bytes_eq name.0 (codes "coefs")) (coefs_of (wholes_in name.1)) (cond (bytes_eq name.0 (codes "at")) (option_map At (only_number name.1)) None)) l e in
    by_name t.value t.rest l (bytes_eq t.value (codes "coefs")) (bytes_eq t.value (codes "at")) refl refl t.goes_on
    ∙ ap (λ name. name ∷ t.rest) (sym (same_Some t.token t.value t.reads)) ∙ sym t.is

line_back : (l : PolyLine) → line_in (line_tokens l) ≡ l
line_back (Coefs c cs) = rw (whole_back c, wholes_back cs) refl
line_back (At x) = rw (whole_back x) refl

pub line_reader : IsReader line_text line_of
unfolding line_of
line_reader = inverse_reader line_tokens (λ ts. Some (line_in ts)) line_fine (λ l. ap Some (line_back l))

pub line_parsed : (piece : List ℕ) → line_of piece ≡ line_at (tokens_of piece)
line_parsed piece = one_reader line_text line_of (λ p. line_at (tokens_of p)) line_reader (reader line_tokens line_at line_fine line_again line_only) piece
