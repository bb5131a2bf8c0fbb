-- The text of a header or a line is read as it, and only that.
use Rattle.std.proofs.Common.{◌≡◌, ℕ, ℤ, List, [], ◌∷◌, Option, Some, None, Bool, true, false, cond, codes, refl, sym, ap, ◌∙◌}
use Rattle.std.specs.Str.{bytes_eq}
use Rattle.std.specs.Cmp.Derive.{both_true}
use Rattle.std.proofs.lemmas.Option.{same_Some, none-some}
use Rattle.std.proofs.lemmas.Slice.Eq.{bytes_eq-Decides}
use Rattle.fixed_word.specs.Decimal.{natural_text, whole_text}
use Rattle.fixed_text.specs.declared.names.WordName.{WordName}
use Rattle.fixed_text.specs.Numbers.{natural_in, numbered_in, only_number, wholes_in}
use Rattle.fixed_text.specs.Texts.{IsReader}
use Rattle.fixed_text.specs.Tokens.{◌>>=◌, tokens_of, next_by, at_end}
use Rattle.fixed_text.specs.Words.{word_name, word_named}
use Rattle.fixed_text.proofs.Joined.{natural_no_space, whole_no_space}
use Rattle.fixed_text.proofs.Readers.{are_tokens, reader, word_no_space, wholes_no_space, word_again, word_only, wholes_again, wholes_only, number_only, numbered_again, numbered_only}
use Rattle.fixed_text.proofs.Inverses.{natural_back, whole_back, wholes_back, inverse_reader, one_reader}
use Rattle.fixed_text.proofs.Naturals.{in_again, in_only}
use Rattle.fixed_text.proofs.Steps.{led_only, next_some, end_some}
use Rattle.fixed_text.proofs.Wholes.{whole_again}
use Rattle.fixed_filter.specs.Text.{FilterHeader, FilterLine, Taps, Sample, header_tokens, header_text, line_tokens, line_text}
use Rattle.fixed_filter.specs.Lines.{header_in, header_of, line_in, line_of}
use Rattle.fixed_filter.specs.inside.Parser.{format_at, header_at, taps_of, sample_of, line_at}

-- ---- a header
header_fine : (h : FilterHeader) → are_tokens (header_tokens h) ≡ true
header_fine h = both_true refl (both_true (word_no_space h.word) (both_true (natural_no_space h.out) (both_true (natural_no_space h.coef) (both_true (natural_no_space h.sample) refl))))

header_again : (h : FilterHeader) → header_at (header_tokens h) ≡ Some h
unfolding header_at format_at
header_again h = rw (word_again h.word, in_again h.out, in_again h.coef, in_again h.sample) refl

abbrev made : WordName → ℕ → ℕ → ℕ → FilterHeader
made w a b c = record { word = w; out = a; coef = b; sample = c }

abbrev format_tokens : FilterHeader → List (List ℕ)
format_tokens h = word_name h.word ∷ natural_text h.out ∷ natural_text h.coef ∷ natural_text h.sample ∷ []

format_only : (ts : List (List ℕ)) (h : FilterHeader) → format_at ts ≡ Some h → format_tokens h ≡ ts
unfolding format_at
format_only ts h e =
    let t = next_some word_named ts (λ w. next_by natural_in w.1 >>= λ a. next_by natural_in a.1 >>= λ b. next_by natural_in b.1 >>= λ c. at_end c.1 (made w.0 a.0 b.0 c.0)) h e in
    let u = next_some natural_in t.rest (λ a. next_by natural_in a.1 >>= λ b. next_by natural_in b.1 >>= λ c. at_end c.1 (made t.value a.0 b.0 c.0)) h t.goes_on in
    let v = next_some natural_in u.rest (λ b. next_by natural_in b.1 >>= λ c. at_end c.1 (made t.value u.value b.0 c.0)) h u.goes_on in
    let x = next_some natural_in v.rest (λ c. at_end c.1 (made t.value u.value v.value c.0)) h v.goes_on in
    let done = end_some x.rest (made t.value u.value v.value x.value) h x.goes_on in
    ap format_tokens (sym done.1)
    ∙ ap (λ name. name ∷ natural_text u.value ∷ natural_text v.value ∷ natural_text x.value ∷ []) (word_only t.token t.value t.reads)
    ∙ ap (λ a. t.token ∷ a ∷ natural_text v.value ∷ natural_text x.value ∷ []) (in_only u.token u.value u.reads)
    ∙ ap (λ b. t.token ∷ u.token ∷ b ∷ natural_text x.value ∷ []) (in_only v.token v.value v.reads)
    ∙ ap (λ c. t.token ∷ u.token ∷ v.token ∷ c ∷ []) (in_only x.token x.value x.reads)
    ∙ ap (λ rest. t.token ∷ u.token ∷ v.token ∷ x.token ∷ rest) (sym done.0)
    ∙ ap (λ rest. t.token ∷ u.token ∷ v.token ∷ rest) (sym x.is)
    ∙ ap (λ rest. t.token ∷ u.token ∷ rest) (sym v.is) ∙ ap (λ rest. t.token ∷ rest) (sym u.is) ∙ sym t.is

header_only : (ts : List (List ℕ)) (h : FilterHeader) → header_at ts ≡ Some h → header_tokens h ≡ ts
unfolding header_at
header_only ts h e = led_only (codes "filter") format_at format_tokens ts h (λ rest is. format_only rest h is) e

header_back : (h : FilterHeader) → header_in (header_tokens h) ≡ Some h
header_back h = rw (word_again h.word, natural_back h.out, natural_back h.coef, natural_back h.sample) refl

pub header_reader : IsReader header_text header_of
unfolding header_of
header_reader = inverse_reader header_tokens header_in header_fine header_back

pub header_parsed : (piece : List ℕ) → header_of piece ≡ header_at (tokens_of piece)
header_parsed piece = one_reader header_text header_of (λ p. header_at (tokens_of p)) header_reader (reader header_tokens header_at header_fine header_again header_only) piece

-- ---- a line
line_fine : (l : FilterLine) → are_tokens (line_tokens l) ≡ true
line_fine (Taps c cs) = both_true refl (wholes_no_space (c ∷ cs))
line_fine (Sample channel x) = both_true (natural_no_space channel) (both_true (whole_no_space x) refl)

line_again : (l : FilterLine) → line_at (line_tokens l) ≡ Some l
unfolding line_at only_number
line_again (Taps c cs) = ap taps_of (wholes_again (c ∷ cs))
line_again (Sample channel x) = rw (numbered_again 99 channel, whole_again x) refl

taps_only : (ts : List (List ℕ)) (l : FilterLine) (o : Option (List ℤ)) → wholes_in ts ≡ o → taps_of o ≡ Some l → line_tokens l ≡ codes "taps" ∷ ts
taps_only ts l None is e = absurd (none-some l e)
taps_only ts l (Some []) is e = absurd (none-some l e)
taps_only ts l (Some (c ∷ cs)) is e = ap line_tokens (sym (same_Some (Taps c cs) l e)) ∙ ap (λ rest. codes "taps" ∷ rest) (wholes_only ts (c ∷ cs) is)

sample_only : (name : List ℕ) (ts : List (List ℕ)) (l : FilterLine) (o : Option ℕ) (x : Option ℤ) → numbered_in 99 name ≡ o → only_number ts ≡ x → sample_of o x ≡ Some l → line_tokens l ≡ name ∷ ts
sample_only name ts l None x is at e = absurd (none-some l e)
sample_only name ts l (Some j) None is at e = absurd (none-some l e)
sample_only name ts l (Some j) (Some x) is at e =
    ap line_tokens (sym (same_Some (Sample j x) l e)) ∙ ap (λ name. name ∷ whole_text x ∷ []) (numbered_only 99 name j is) ∙ ap (λ rest. name ∷ rest) (number_only ts x at)

-- what a name begins, by what it is
by_name : (name : List ℕ) (rest : List (List ℕ)) (l : FilterLine) (b : Bool) → bytes_eq name (codes "taps") ≡ b → cond b (taps_of (wholes_in rest)) (sample_of (numbered_in 99 name) (only_number rest)) ≡ Some l → line_tokens l ≡ name ∷ rest
by_name name rest l true is e = taps_only rest l (wholes_in rest) refl e ∙ ap (λ name. name ∷ rest) (sym ((bytes_eq-Decides name (codes "taps")).0 is))
by_name name rest l false is e = sample_only name rest l (numbered_in 99 name) (only_number rest) refl refl e

line_only : (ts : List (List ℕ)) (l : FilterLine) → line_at ts ≡ Some l → line_tokens l ≡ ts
unfolding line_at
line_only ts l e =
    let t = next_some Some ts (λ name. cond (bytes_eq name.0 (codes "taps")) (taps_of (wholes_in name.1)) (sample_of (numbered_in 99 name.0) (only_number name.1))) l e in
    by_name t.value t.rest l (bytes_eq t.value (codes "taps")) refl t.goes_on
    ∙ ap (λ name. name ∷ t.rest) (sym (same_Some t.token t.value t.reads)) ∙ sym t.is

line_back : (l : FilterLine) → line_in (line_tokens l) ≡ l
line_back (Taps c cs) = rw (whole_back c, wholes_back cs) refl
line_back (Sample channel x) = rw (natural_back channel, whole_back x) refl

pub line_reader : IsReader line_text line_of
unfolding line_of
line_reader = inverse_reader line_tokens (λ ts. Some (line_in ts)) line_fine (λ l. ap Some (line_back l))

pub line_parsed : (piece : List ℕ) → line_of piece ≡ line_at (tokens_of piece)
line_parsed piece = one_reader line_text line_of (λ p. line_at (tokens_of p)) line_reader (reader line_tokens line_at line_fine line_again line_only) piece
