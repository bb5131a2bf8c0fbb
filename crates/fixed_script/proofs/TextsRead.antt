-- A piece is read as the line whose text it is.
use Rattle.std.proofs.Common.{◌≡◌, ℕ, ◌-◌, List, [], ◌∷◌, ◌++◌, map, length, drop, Option, Some, None, Bool, true, false, if◌then◌else◌, refl, sym, ap, subst, IfNone, IfSome, ◌∙◌, codes}
use Rattle.std.specs.Option.{option_map, option_and_then}
use Rattle.std.specs.Str.{bytes_eq}
use Rattle.std.specs.Str.Parse.{digits_value}
use Rattle.std.proofs.lemmas.Bool.{false≢true}
use Rattle.std.proofs.lemmas.Option.{same_Some}
use Rattle.fixed_word.specs.declared.rounding.Rounding.{Rounding}
use Rattle.fixed_script.specs.declared.names.Policy.{Policy}
use Rattle.fixed_script.specs.declared.names.Op.{Op}
use Rattle.fixed_script.specs.declared.line.Arity.{Arity}
use Rattle.fixed_script.specs.declared.line.Arity.TheVariants.{Unary, Binary, ByInteger, Ternary}
use Rattle.fixed_word.specs.Decimal.{natural_text}
use Rattle.fixed_script.specs.Names.{policy_named, op_named, rounding_named, arity}
use Rattle.fixed_script.specs.Text.{ScriptHeader, header_text, header_tokens, ScriptLine, SetTo, Apply, Operands, OneRegister, TwoRegisters, RegisterAndInt, ThreeRegisters, takes_rounding, may_round, IsLine, line_text, line_tokens, operand_tokens, arity_of}
use Rattle.fixed_script.proofs.RoundingTokens.{rounding_tokens}
use Rattle.fixed_text.specs.Inverse.{token, whole_value, numbered_value}
use Rattle.fixed_text.specs.Tokens.{tokens_of}
use Rattle.fixed_text.proofs.Inverses.{natural_back, whole_back, its_text, has_text}
use Rattle.fixed_script.proofs.Readers.{policy_again, op_again}
use Rattle.fixed_script.proofs.Joined.{tokens_of_line}
use Rattle.fixed_script.proofs.Lines.{not_set}
use Rattle.fixed_script.proofs.OneText.{register_names_none, whole_names_none, rounding_again}
use Rattle.fixed_text.proofs.Readers.{word_again}
use Rattle.fixed_script.proofs.HeaderLaws.{tokens_of_header}
use Rattle.fixed_script.specs.declared.line.Line.{Line}
use Rattle.fixed_script.specs.Capped.{capped, checked_script_line}
use Rattle.fixed_word.specs.Pieces.{body}
use Rattle.fixed_script.specs.Headers.{CappedHeader, capped_header}
use Rattle.fixed_script.specs.Lines.{line_of_piece, header_of_piece, operands_in, rounding_in, apply_in, line_in, header_in, line_of, header_of, ReadsLines, ReadsHeaders}
use Rattle.fixed_script.specs.ReadPieces.{ReadsLine, ReadsHeader}

-- ---- what is read back
operands_back : (op : Op) (xs : Operands) (r : Option Rounding) → arity op ≡ arity_of xs → operands_in (arity op) (operand_tokens xs ++ rounding_tokens r) ≡ xs
operands_back op (OneRegister a) r is = rw (is, natural_back a) refl
operands_back op (TwoRegisters a b) r is = rw (is, natural_back a, natural_back b) refl
operands_back op (RegisterAndInt a k) r is = rw (is, natural_back a, whole_back k) refl
operands_back op (ThreeRegisters a b c) r is = rw (is, natural_back a, natural_back b, natural_back c) refl

-- the last of a line's tokens after the operation names its rounding, or none
last_names : (xs : Operands) (r : Option Rounding) → rounding_named (token (operand_tokens xs ++ rounding_tokens r) (length (operand_tokens xs ++ rounding_tokens r) - 1)) ≡ r
last_names (OneRegister a) None = register_names_none a
last_names (TwoRegisters a b) None = register_names_none b
last_names (RegisterAndInt a k) None = whole_names_none k
last_names (ThreeRegisters a b c) None = register_names_none c
last_names (OneRegister a) (Some r) = rounding_again r
last_names (TwoRegisters a b) (Some r) = rounding_again r
last_names (RegisterAndInt a k) (Some r) = rounding_again r
last_names (ThreeRegisters a b c) (Some r) = rounding_again r

named_back : (b : Bool) (op : Op) (r : Option Rounding) → takes_rounding op ≡ b → may_round op r ≡ true → (if b then r else None) ≡ r
named_back true op r t m = refl
named_back false op None t m = refl
named_back false op (Some r) t m = absurd (false≢true (sym t ∙ m))

rounding_back : (op : Op) (xs : Operands) (r : Option Rounding) → may_round op r ≡ true → rounding_in op (operand_tokens xs ++ rounding_tokens r) ≡ r
rounding_back op xs r m = ap (λ (q : Option Rounding). if takes_rounding op then q else None) (last_names xs r) ∙ named_back (takes_rounding op) op r refl m

applied_back : (dest : ℕ) (policy : Policy) (op : Op) (xs : Operands) (r : Option Rounding) → arity op ≡ arity_of xs → may_round op r ≡ true
    → apply_in dest policy op (operand_tokens xs ++ rounding_tokens r) ≡ Apply dest policy op xs r
applied_back dest policy op xs r is m =
    ap (λ (ys : Operands). Apply dest policy op ys (rounding_in op (operand_tokens xs ++ rounding_tokens r))) (operands_back op xs r is)
    ∙ ap (λ (q : Option Rounding). Apply dest policy op xs q) (rounding_back op xs r m)

pub line_back : (l : ScriptLine) → IsLine l → line_in (line_tokens l) ≡ Some l
line_back (SetTo dest k) is = rw (natural_back dest, whole_back k) refl
line_back (Apply dest policy op xs r) is = rw (not_set policy, policy_again policy, op_again op, natural_back dest) (ap (λ l. Some l) (applied_back dest policy op xs r is.0 is.1))

naturals_back : (ns : List ℕ) → map (digits_value 10) (map natural_text ns) ≡ ns
naturals_back [] = refl
naturals_back (n ∷ ns) = ap (λ (m : ℕ). m ∷ map (digits_value 10) (map natural_text ns)) (natural_back n) ∙ ap (λ (ms : List ℕ). n ∷ ms) (naturals_back ns)

header_back : (h : ScriptHeader) → header_in (header_tokens h) ≡ Some h
header_back h =
    let made = λ (n : ℕ) (ns : List ℕ). let m : ScriptHeader = record { word = h.word; first = n; others = ns } in m in
    ap (option_map (λ w. record { word = w; first = digits_value 10 (natural_text h.first); others = map (digits_value 10) (map natural_text h.others) })) (word_again h.word)
    ∙ ap (λ (n : ℕ). Some (made n (map (digits_value 10) (map natural_text h.others)))) (natural_back h.first) ∙ ap (λ (ns : List ℕ). Some (made h.first ns)) (naturals_back h.others)

-- ---- only lines are read
shaped : (s : Arity) (ts : List (List ℕ)) → s ≡ arity_of (operands_in s ts)
shaped Unary ts = refl
shaped Binary ts = refl
shaped ByInteger ts = refl
shaped Ternary ts = refl

may : (b : Bool) (op : Op) (r : Option Rounding) → takes_rounding op ≡ b → may_round op (if b then r else None) ≡ true
may false op r is = refl
may true op None is = refl
may true op (Some r) is = is

apply_is : (dest : ℕ) (p : Policy) (o : Op) (ts : List (List ℕ)) → IsLine (apply_in dest p o ts)
apply_is dest p o ts = (shaped (arity o) ts, may (takes_rounding o) o (rounding_named (token ts (length ts - 1))) refl)

pub line_is : (ts : List (List ℕ)) (l : ScriptLine) → line_in ts ≡ Some l → IsLine l
line_is ts l e = by_name (bytes_eq (token ts 1) (codes "set")) e
  where
    dest : ℕ
    dest = numbered_value (token ts 0)

    applied : Option Policy → Option Op → Option ScriptLine
    applied p o = option_and_then (λ policy. option_map (λ op. apply_in dest policy op (drop 3 ts)) o) p

    by_parts : (p : Option Policy) (o : Option Op) → applied p o ≡ Some l → IsLine l
    by_parts None o e = cc
    by_parts (Some p) None e = cc
    by_parts (Some p) (Some o) e = subst IsLine (same_Some (apply_in dest p o (drop 3 ts)) l e) (apply_is dest p o (drop 3 ts))

    by_name : (b : Bool) → (if b then Some (SetTo dest (whole_value (token ts 2))) else applied (policy_named (token ts 1)) (op_named (token ts 2))) ≡ Some l → IsLine l
    by_name true e = subst IsLine (same_Some (SetTo dest (whole_value (token ts 2))) l e) tt
    by_name false e = by_parts (policy_named (token ts 1)) (op_named (token ts 2)) e

pub reads_lines : ReadsLines
unfolding line_of
reads_lines piece l = (
  λ e. let t = its_text line_text piece (line_in (tokens_of piece)) l e in (line_is (tokens_of piece) l t.0, t.1),
  λ h. has_text line_text piece (line_in (tokens_of piece)) l (ap (λ (p : List ℕ). line_in (tokens_of p)) (sym h.1) ∙ ap line_in (tokens_of_line l) ∙ line_back l h.0) h.1,
)

pub reads_headers : ReadsHeaders
unfolding header_of
reads_headers piece h = (
  λ e. (its_text header_text piece (header_in (tokens_of piece)) h e).1,
  λ t. has_text header_text piece (header_in (tokens_of piece)) h (ap (λ (p : List ℕ). header_in (tokens_of p)) (sym t) ∙ ap header_in (tokens_of_header h) ∙ header_back h) t,
)

-- ---- what the parser answers
none_from : (piece : List ℕ) (o : Option ScriptLine) → line_of piece ≡ o → ((l : ScriptLine) → IsLine l → line_text l ≡ piece → ⊥) → o ≡ None
none_from piece None is h = refl
none_from piece (Some l) is h = let p = (reads_lines piece l).0 is in absurd (h l p.0 p.1)

pub line_tells : (piece front : List ℕ) (r : Option Line) → body piece ≡ Some front → IfNone r ((l : ScriptLine) → IsLine l → line_text l ≡ front → ⊥)
    → IfSome r (λ read. (l : ScriptLine) × IsLine l × (line_text l ≡ front) × (checked_script_line read ≡ Some (capped l))) → ReadsLine piece r
unfolding line_of_piece
line_tells piece front None is none found = ap (λ o. option_and_then line_of o) is ∙ none_from front (line_of front) refl none
line_tells piece front (Some read) is none found = (found.0, ap (λ o. option_and_then line_of o) is ∙ (reads_lines front found.0).1 (found.1, found.2), found.3)

pub no_front : (piece : List ℕ) → body piece ≡ None → line_of_piece piece ≡ None
unfolding line_of_piece
no_front piece is = ap (λ o. option_and_then line_of o) is

no_header_from : (piece : List ℕ) (o : Option ScriptHeader) → header_of piece ≡ o → ((h : ScriptHeader) → header_text h ≡ piece → ⊥) → o ≡ None
no_header_from piece None is h = refl
no_header_from piece (Some l) is h = absurd (h l ((reads_headers piece l).0 is))

pub header_tells : (piece front : List ℕ) (r : Option CappedHeader) → body piece ≡ Some front → IfNone r ((h : ScriptHeader) → header_text h ≡ front → ⊥)
    → IfSome r (λ read. (h : ScriptHeader) × (header_text h ≡ front) × (read ≡ capped_header h)) → ReadsHeader piece r
unfolding header_of_piece
header_tells piece front None is none found = ap (λ o. option_and_then header_of o) is ∙ no_header_from front (header_of front) refl none
header_tells piece front (Some read) is none found = (found.0, ap (λ o. option_and_then header_of o) is ∙ (reads_headers front found.0).1 found.1, found.2)

pub no_front_header : (piece : List ℕ) → body piece ≡ None → header_of_piece piece ≡ None
unfolding header_of_piece
no_front_header piece is = ap (λ o. option_and_then header_of o) is
