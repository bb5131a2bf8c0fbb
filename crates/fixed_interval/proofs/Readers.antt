-- The text of a header or a line is read as it, and only that.
use Rattle.std.proofs.Common.{◌≡◌, ℕ, List, [], ◌∷◌, Some, Bool, true, false, cond, codes, refl, sym, ap, ◌∙◌}
use Rattle.std.specs.Str.{bytes_eq}
use Rattle.std.specs.Option.{option_map}
use Rattle.std.specs.Cmp.Derive.{both_true}
use Rattle.std.specs.List.{list_all}
use Rattle.std.proofs.lemmas.Option.{same_Some}
use Rattle.std.proofs.lemmas.Slice.Eq.{bytes_eq-Decides}
use Rattle.fixed_word.specs.Decimal.{natural_text, whole_text}
use Rattle.fixed_text.specs.Inverse.{numbered_value}
use Rattle.fixed_text.specs.Numbers.{natural_in, whole_in}
use Rattle.fixed_text.specs.Texts.{IsReader, no_space}
use Rattle.fixed_text.specs.Tokens.{◌>>=◌, tokens_of, next_by, at_end}
use Rattle.fixed_text.specs.Words.{word_name, word_named}
use Rattle.fixed_text.proofs.Joined.{natural_no_space, whole_no_space}
use Rattle.fixed_text.proofs.Readers.{are_tokens, reader, word_no_space, word_again, word_only, numbered_again, numbered_only}
use Rattle.fixed_text.proofs.Inverses.{natural_back, whole_back, inverse_reader, one_reader}
use Rattle.fixed_text.proofs.Naturals.{in_again, in_only}
use Rattle.fixed_text.proofs.Steps.{bind_some, led_only, named_takes, next_some, end_some}
use Rattle.fixed_text.proofs.Wholes.{whole_again, whole_only}
use Rattle.fixed_interval.specs.declared.op.IntervalOp.{IntervalOp}
use Rattle.fixed_interval.specs.declared.op.IntervalOp.TheVariants.{Add, Sub, Mul, Div}
use Rattle.fixed_interval.specs.Text.{IntervalHeader, IntervalRequest, IntervalLine, SetTo, OfTwo, RootOf, op_name, register_text, header_tokens, header_text, request_tokens, line_tokens, line_text}
use Rattle.fixed_interval.specs.Lines.{all_ops, op_in, header_in, header_of, request_in, line_in, line_of}
use Rattle.fixed_interval.specs.inside.Parser.{register_in, format_at, header_at, set_at, two_at, root_at, request_by, request_at, line_at}

-- ---- a header
header_fine : (h : IntervalHeader) → are_tokens (header_tokens h) ≡ true
header_fine h = both_true refl (both_true (word_no_space h.word) (both_true (natural_no_space h.frac) (both_true (natural_no_space h.count) refl)))

header_again : (h : IntervalHeader) → header_at (header_tokens h) ≡ Some h
unfolding header_at format_at
header_again h = rw (word_again h.word, in_again h.frac, in_again h.count) refl

abbrev format_tokens : IntervalHeader → List (List ℕ)
format_tokens h = word_name h.word ∷ natural_text h.frac ∷ natural_text h.count ∷ []

format_only : (ts : List (List ℕ)) (h : IntervalHeader) → format_at ts ≡ Some h → format_tokens h ≡ ts
unfolding format_at
format_only ts h e =
    let t = next_some word_named ts (λ word. next_by natural_in word.1 >>= λ frac. next_by natural_in frac.1 >>= λ count. at_end count.1 (record { word = word.0; frac = frac.0; count = count.0 })) h e in
    let u = next_some natural_in t.rest (λ frac. next_by natural_in frac.1 >>= λ count. at_end count.1 (record { word = t.value; frac = frac.0; count = count.0 })) h t.goes_on in
    let v = next_some natural_in u.rest (λ count. at_end count.1 (record { word = t.value; frac = u.value; count = count.0 })) h u.goes_on in
    let done = end_some v.rest (record { word = t.value; frac = u.value; count = v.value }) h v.goes_on in
    ap format_tokens (sym done.1)
    ∙ ap (λ name. name ∷ natural_text u.value ∷ natural_text v.value ∷ []) (word_only t.token t.value t.reads)
    ∙ ap (λ frac. t.token ∷ frac ∷ natural_text v.value ∷ []) (in_only u.token u.value u.reads)
    ∙ ap (λ count. t.token ∷ u.token ∷ count ∷ []) (in_only v.token v.value v.reads)
    ∙ ap (λ rest. t.token ∷ u.token ∷ v.token ∷ rest) (sym done.0) ∙ ap (λ rest. t.token ∷ u.token ∷ rest) (sym v.is) ∙ ap (λ rest. t.token ∷ rest) (sym u.is) ∙ sym t.is

header_only : (ts : List (List ℕ)) (h : IntervalHeader) → header_at ts ≡ Some h → header_tokens h ≡ ts
unfolding header_at
header_only ts h e = led_only (codes "interval") format_at format_tokens ts h (λ rest is. format_only rest h is) e

header_back : (h : IntervalHeader) → header_in (header_tokens h) ≡ Some h
header_back h = rw (word_again h.word, natural_back h.frac, natural_back h.count) refl

pub header_reader : IsReader header_text header_of
unfolding header_of
header_reader = inverse_reader header_tokens header_in header_fine header_back

pub header_parsed : (piece : List ℕ) → header_of piece ≡ header_at (tokens_of piece)
header_parsed piece = one_reader header_text header_of (λ p. header_at (tokens_of p)) header_reader (reader header_tokens header_at header_fine header_again header_only) piece

-- ---- what a line asks for
op_no_space : (op : IntervalOp) → no_space (op_name op) ≡ true
op_no_space Add = refl
op_no_space Sub = refl
op_no_space Mul = refl
op_no_space Div = refl

line_fine : (l : IntervalLine) → are_tokens (line_tokens l) ≡ true
line_fine l = both_true (natural_no_space l.dest) (by_request l.request)
  where
    by_request : (r : IntervalRequest) → list_all no_space (request_tokens r) ≡ true
    by_request (SetTo low high) = both_true refl (both_true (whole_no_space low) (both_true (whole_no_space high) refl))
    by_request (OfTwo op a b) = both_true (op_no_space op) (both_true (natural_no_space a) (both_true (natural_no_space b) refl))
    by_request (RootOf a) = both_true refl (both_true (natural_no_space a) refl)

two_again : (op : IntervalOp) (a b : ℕ) → two_at op (register_text a ∷ register_text b ∷ []) ≡ Some (OfTwo op a b)
unfolding two_at
two_again op a b = rw (numbered_again 105 a, numbered_again 105 b) refl

request_again : (r : IntervalRequest) → request_at (request_tokens r) ≡ Some r
unfolding request_at set_at root_at
request_again (SetTo low high) = rw (whole_again low, whole_again high) refl
request_again (RootOf a) = rw (numbered_again 105 a) refl
request_again (OfTwo Add a b) = two_again Add a b
request_again (OfTwo Sub a b) = two_again Sub a b
request_again (OfTwo Mul a b) = two_again Mul a b
request_again (OfTwo Div a b) = two_again Div a b

line_again : (l : IntervalLine) → line_at (line_tokens l) ≡ Some l
unfolding line_at
line_again l = rw (numbered_again 105 l.dest, request_again l.request) refl

set_only : (ts : List (List ℕ)) (r : IntervalRequest) → set_at ts ≡ Some r → request_tokens r ≡ codes "set" ∷ ts
unfolding set_at
set_only ts r e =
    let t = next_some whole_in ts (λ low. next_by whole_in low.1 >>= λ high. at_end high.1 (SetTo low.0 high.0)) r e in
    let u = next_some whole_in t.rest (λ high. at_end high.1 (SetTo t.value high.0)) r t.goes_on in
    let done = end_some u.rest (SetTo t.value u.value) r u.goes_on in
    ap request_tokens (sym done.1)
    ∙ ap (λ low. codes "set" ∷ low ∷ whole_text u.value ∷ []) (whole_only t.token t.value t.reads)
    ∙ ap (λ high. codes "set" ∷ t.token ∷ high ∷ []) (whole_only u.token u.value u.reads)
    ∙ ap (λ rest. codes "set" ∷ t.token ∷ u.token ∷ rest) (sym done.0) ∙ ap (λ rest. codes "set" ∷ t.token ∷ rest) (sym u.is) ∙ ap (λ rest. codes "set" ∷ rest) (sym t.is)

two_only : (op : IntervalOp) (ts : List (List ℕ)) (r : IntervalRequest) → two_at op ts ≡ Some r → request_tokens r ≡ op_name op ∷ ts
unfolding two_at
two_only op ts r e =
    let t = next_some register_in ts (λ a. next_by register_in a.1 >>= λ b. at_end b.1 (OfTwo op a.0 b.0)) r e in
    let u = next_some register_in t.rest (λ b. at_end b.1 (OfTwo op t.value b.0)) r t.goes_on in
    let done = end_some u.rest (OfTwo op t.value u.value) r u.goes_on in
    ap request_tokens (sym done.1)
    ∙ ap (λ a. op_name op ∷ a ∷ register_text u.value ∷ []) (numbered_only 105 t.token t.value t.reads)
    ∙ ap (λ b. op_name op ∷ t.token ∷ b ∷ []) (numbered_only 105 u.token u.value u.reads)
    ∙ ap (λ rest. op_name op ∷ t.token ∷ u.token ∷ rest) (sym done.0) ∙ ap (λ rest. op_name op ∷ t.token ∷ rest) (sym u.is) ∙ ap (λ rest. op_name op ∷ rest) (sym t.is)

root_only : (ts : List (List ℕ)) (r : IntervalRequest) → root_at ts ≡ Some r → request_tokens r ≡ codes "sqrt" ∷ ts
unfolding root_at
root_only ts r e =
    let t = next_some register_in ts (λ a. at_end a.1 (RootOf a.0)) r e in
    let done = end_some t.rest (RootOf t.value) r t.goes_on in
    ap request_tokens (sym done.1)
    ∙ ap (λ a. codes "sqrt" ∷ a ∷ []) (numbered_only 105 t.token t.value t.reads)
    ∙ ap (λ rest. codes "sqrt" ∷ t.token ∷ rest) (sym done.0) ∙ ap (λ rest. codes "sqrt" ∷ rest) (sym t.is)

-- what a name begins, by what it is
by_name : (name : List ℕ) (rest : List (List ℕ)) (r : IntervalRequest) (b c : Bool) → bytes_eq name (codes "set") ≡ b → bytes_eq name (codes "sqrt") ≡ c → cond b (set_at rest) (cond c (root_at rest) (op_in name >>= λ op. two_at op rest)) ≡ Some r → request_tokens r ≡ name ∷ rest
by_name name rest r true c is other e = set_only rest r e ∙ ap (λ name. name ∷ rest) (sym ((bytes_eq-Decides name (codes "set")).0 is))
by_name name rest r false true other is e = root_only rest r e ∙ ap (λ name. name ∷ rest) (sym ((bytes_eq-Decides name (codes "sqrt")).0 is))
by_name name rest r false false other also e =
    let op = bind_some (op_in name) (λ op. two_at op rest) r e in
    two_only op.0 rest r op.2 ∙ ap (λ name. name ∷ rest) (named_takes op_name all_ops name op.0 op.1)

request_only : (ts : List (List ℕ)) (r : IntervalRequest) → request_at ts ≡ Some r → request_tokens r ≡ ts
unfolding request_at
request_only ts r e =
    let t = next_some Some ts (λ name. request_by name.0 name.1) r e in
    by_name t.value t.rest r (bytes_eq t.value (codes "set")) (bytes_eq t.value (codes "sqrt")) refl refl t.goes_on
    ∙ ap (λ name. name ∷ t.rest) (sym (same_Some t.token t.value t.reads)) ∙ sym t.is

line_only : (ts : List (List ℕ)) (l : IntervalLine) → line_at ts ≡ Some l → line_tokens l ≡ ts
unfolding line_at
line_only ts l e =
    let t = next_some register_in ts (λ dest. request_at dest.1 >>= λ request. Some (record { dest = dest.0; request = request })) l e in
    let r = bind_some (request_at t.rest) (λ request. Some (record { dest = t.value; request = request })) l t.goes_on in
    ap line_tokens (sym (same_Some (record { dest = t.value; request = r.0 }) l r.2))
    ∙ ap (λ dest. dest ∷ request_tokens r.0) (numbered_only 105 t.token t.value t.reads)
    ∙ ap (λ rest. t.token ∷ rest) (request_only t.rest r.0 r.1) ∙ sym t.is

request_back : (dest : ℕ) (r : IntervalRequest) → request_in (register_text dest ∷ request_tokens r) ≡ Some r
request_back dest (SetTo low high) = rw (whole_back low, whole_back high) refl
request_back dest (RootOf a) = rw (natural_back a) refl
request_back dest (OfTwo Add a b) = rw (natural_back a, natural_back b) refl
request_back dest (OfTwo Sub a b) = rw (natural_back a, natural_back b) refl
request_back dest (OfTwo Mul a b) = rw (natural_back a, natural_back b) refl
request_back dest (OfTwo Div a b) = rw (natural_back a, natural_back b) refl

line_back : (l : IntervalLine) → line_in (line_tokens l) ≡ Some l
line_back l =
    let made = λ (n : ℕ) (r : IntervalRequest). let m : IntervalLine = record { dest = n; request = r } in m in
    ap (option_map (made (numbered_value (register_text l.dest)))) (request_back l.dest l.request) ∙ ap (λ (n : ℕ). Some (made n l.request)) (natural_back l.dest)

pub line_reader : IsReader line_text line_of
unfolding line_of
line_reader = inverse_reader line_tokens line_in line_fine line_back

pub line_parsed : (piece : List ℕ) → line_of piece ≡ line_at (tokens_of piece)
line_parsed piece = one_reader line_text line_of (λ p. line_at (tokens_of p)) line_reader (reader line_tokens line_at line_fine line_again line_only) piece
