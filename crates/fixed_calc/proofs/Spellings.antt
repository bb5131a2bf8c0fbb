-- A script that is spelled out: how it is written, and that it means the same.
use Rattle.std.specs.Option.{option_and_then, option_map_or, option_or}
use Rattle.std.proofs.Common.{◌≡◌, ◌+◌, ◌-◌, ℕ, Bool, true, false, not, ◌||◌, nat_le, List, [], ◌∷◌, ◌++◌, length, take, length-append, Option, Some, None, if◌then◌else◌, refl, sym, ap, ◌∙◌, arith, append_assoc}
use Rattle.std.specs.List.{join_with_byte, list_any}
use Rattle.std.proofs.lemmas.List.{append-nil}
use Rattle.std.proofs.lemmas.Option.{same_Some}
use Rattle.std.proofs.Math.Seq.{take-append_seam}
use Rattle.fixed_word.specs.declared.rounding.Rounding.{Rounding}
use Rattle.fixed_word.specs.declared.rounding.Rounding.TheVariants.{Down}
use Rattle.fixed_word.specs.Pieces.{pieces, body}
use Rattle.std.specs.Prelude.{drop, slice_index_or, unwrap_or}
use Rattle.fixed_script.specs.declared.names.Policy.{Policy}
use Rattle.fixed_script.specs.declared.names.Op.{Op}
use Rattle.fixed_script.specs.declared.names.Op.TheVariants.{Neg, Add, Sub, Mul, Div, Recip, MulAdd, AddProd, MulInt, DivInt, DivEuclid, DivEuclidInt, RemEuclidInt, NextMultipleOf, Dist, Sqrt, Abs, Signum, Rem, RemInt, RemEuclid, NextPowerOfTwo}
use Rattle.fixed_script.specs.declared.line.Arity.{Arity}
use Rattle.fixed_script.specs.declared.line.Arity.TheVariants.{Unary, Binary, ByInteger, Ternary}
use Rattle.fixed_script.specs.declared.line.Line.{Line}
use Rattle.fixed_script.specs.declared.line.Line.TheVariants.{Set, One, Two, Int, Three}
use Rattle.fixed_script.specs.Names.{policy_name, op_name, rounding_name, arity, default_rounding}
use Rattle.fixed_script.specs.Text.{ScriptHeader, ScriptLine, SetTo, Apply, Operands, OneRegister, TwoRegisters, RegisterAndInt, ThreeRegisters, IsLine, may_round, register_text, operand_tokens, header_text, line_text}
use Rattle.fixed_script.specs.Capped.{capped, checked_script_line, literal_value, of_arity}
use Rattle.fixed_script.specs.Lines.{line_of, line_of_piece, header_of_piece}
use Rattle.fixed_script.proofs.TextsRead.{reads_lines}
use Rattle.fixed_machine.specs.Answers.{answer_text, ended}
use Rattle.fixed_machine.specs.Machine.{State, OperandValues, operand_values, row_by, row_cause, late_cause_by, literals_of, registers_of, is_unoffered, is_out_of_range, is_mismatched, stored, cause, answer, answer_by}
use Rattle.fixed_text.specs.Words.{is_signed, width}
use Rattle.fixed_machine.specs.Rows.{exact}
use Rattle.fixed_machine.specs.Projection.{project}
use Rattle.fixed_text.specs.Runs.{Run, Meaning, Output, Fault, lines_from, meaning_of, run_then}
use Rattle.fixed_text.specs.inside.Ends.{after}
use Rattle.fixed_text.proofs.Turns.{cause_turn, nothing_left, turn}
use Rattle.fixed_machine.specs.Meaning.{step_by, started, script_run}
use Rattle.fixed_machine.specs.inside.Lines.{by_cause, run_lines}
use Rattle.fixed_machine.proofs.Runs.{run_pieces}
use Rattle.fixed_machine.specs.declared.cause.Cause.TheVariants.{Syntax, OutOfRange, FractionMismatch}
use Rattle.fixed_calc.specs.Spelled.{spelled_line, spelled_piece, spelled_at, spelled_run, spelled, KeepsMeaning}
use Rattle.fixed_calc.specs.inside.Spelling.{added_to, spelled_lines, with_end}
use Rattle.fixed_machine.specs.inside.Stepping.{script_line_of, is_value}
use Rattle.fixed_calc.proofs.Before.{join_last}
use Rattle.fixed_text.proofs.Ended.{pieces_ended}
use Rattle.fixed_machine.proofs.Ended.{line_read, header_read}
use Rattle.fixed_calc.proofs.Headed.{body_by, header_piece}
use Rattle.fixed_machine.proofs.Lacks.{line_lacks}
use Rattle.fixed_calc.proofs.WidenedRuns.{script_pieces}

-- ---- the line that was read, and the rounding that is added
shape_seen : (s t : Arity) (l x : ScriptLine) → of_arity s t l ≡ Some x → of_arity s t l ≡ Some l
shape_seen Unary Unary l x e = refl
shape_seen Binary Binary l x e = refl
shape_seen ByInteger ByInteger l x e = refl
shape_seen Ternary Ternary l x e = refl
shape_seen Unary Binary l x e = cc
shape_seen Unary ByInteger l x e = cc
shape_seen Unary Ternary l x e = cc
shape_seen Binary Unary l x e = cc
shape_seen Binary ByInteger l x e = cc
shape_seen Binary Ternary l x e = cc
shape_seen ByInteger Unary l x e = cc
shape_seen ByInteger Binary l x e = cc
shape_seen ByInteger Ternary l x e = cc
shape_seen Ternary Unary l x e = cc
shape_seen Ternary Binary l x e = cc
shape_seen Ternary ByInteger l x e = cc

round_seen : (b : Bool) (s t : Arity) (l x : ScriptLine) → (if b then of_arity s t l else None) ≡ Some x → l ≡ x
round_seen true s t l x e = same_Some l x (sym (shape_seen s t l x e) ∙ e)
round_seen false s t l x e = cc

line_seen : (line : Line) (x : ScriptLine) → checked_script_line line ≡ Some x → script_line_of line ≡ x
line_seen (Set dest l) x e = same_Some (SetTo dest (literal_value l)) x e
line_seen (One dest policy op a r) x e = round_seen (may_round op r) (arity op) Unary (Apply dest policy op (OneRegister a) r) x e
line_seen (Two dest policy op a b r) x e = round_seen (may_round op r) (arity op) Binary (Apply dest policy op (TwoRegisters a b) r) x e
line_seen (Int dest policy op a l r) x e = round_seen (may_round op r) (arity op) ByInteger (Apply dest policy op (RegisterAndInt a (literal_value l)) r) x e
line_seen (Three dest policy op a b c r) x e = round_seen (may_round op r) (arity op) Ternary (Apply dest policy op (ThreeRegisters a b c) r) x e

added_capped : (x : ScriptLine) → added_to (capped x) ≡ added_to x
added_capped (SetTo dest k) = refl
added_capped (Apply dest policy op xs None) = refl
added_capped (Apply dest policy op xs (Some r)) = refl

pub added_seen : (line : Line) (x : ScriptLine) → checked_script_line line ≡ Some (capped x) → added_to (script_line_of line) ≡ added_to x
added_seen line x e = ap added_to (line_seen line (capped x) e) ∙ added_capped x

-- ---- the text that is written
text_rounded : (dest : ℕ) (policy : Policy) (op : Op) (xs : Operands) (r : Rounding) → line_text (Apply dest policy op xs (Some r)) ≡ line_text (Apply dest policy op xs None) ++ (32 ∷ rounding_name r)
text_rounded dest policy op xs r =
    join_last (register_text dest) (policy_name policy ∷ op_name op ∷ operand_tokens xs) (rounding_name r)
    ∙ ap (λ us. join_with_byte 32 (register_text dest ∷ policy_name policy ∷ op_name op ∷ us) ++ (32 ∷ rounding_name r)) (sym (append-nil (operand_tokens xs)))

front_ended : (t : List ℕ) → take (length (ended t) - 1) (ended t) ≡ t
front_ended t =
    let back : length (ended t) - 1 ≡ length t = omega (arith, length-append t (10 ∷ [])) in
    ap (λ n. take n (ended t)) back ∙ take-append_seam t (10 ∷ [])

end_written : (t : List ℕ) (r : Rounding) → with_end (Some r) (ended t) ≡ ended (t ++ (32 ∷ rounding_name r))
end_written t r = ap (λ f. f ++ (32 ∷ (rounding_name r ++ (10 ∷ [])))) (front_ended t) ∙ sym (append_assoc t (32 ∷ rounding_name r) (10 ∷ []))

default_written : (dest : ℕ) (policy : Policy) (op : Op) (xs : Operands) (o : Option Rounding) → with_end o (ended (line_text (Apply dest policy op xs None))) ≡ ended (line_text (Apply dest policy op xs o))
default_written dest policy op xs None = refl
default_written dest policy op xs (Some r) = end_written (line_text (Apply dest policy op xs None)) r ∙ ap ended (sym (text_rounded dest policy op xs r))

line_written : (l : ScriptLine) → with_end (added_to l) (ended (line_text l)) ≡ ended (line_text (spelled_line l))
line_written (SetTo dest k) = refl
line_written (Apply dest policy op xs None) = default_written dest policy op xs (default_rounding op)
line_written (Apply dest policy op xs (Some r)) = refl

front_text : (p : List ℕ) (l : ScriptLine) (o : Option (List ℕ)) → body p ≡ o → option_and_then line_of o ≡ Some l → p ≡ ended (line_text l)
front_text p l None is e = cc
front_text p l (Some t) is e = body_by p t _ refl is ∙ ap ended (sym ((reads_lines t l).0 e).1)

pub line_piece : (p : List ℕ) (l : ScriptLine) → line_of_piece p ≡ Some l → p ≡ ended (line_text l)
unfolding line_of_piece
line_piece p l e = front_text p l (body p) refl e

pub piece_written : (p : List ℕ) (l : ScriptLine) → line_of_piece p ≡ Some l → with_end (added_to l) p ≡ ended (line_text (spelled_line l))
piece_written p l e = ap (with_end (added_to l)) (line_piece p l e) ∙ line_written l

-- ---- one line, and then the rest
line_spelled : (k : ℕ) (p : List ℕ) (o : Option ScriptLine) → line_of_piece p ≡ o → spelled_at tt k p ≡ spelled_piece (λ l. line_text (spelled_line l)) k o
line_spelled k p o is = ap (spelled_piece (λ l. line_text (spelled_line l)) k) is

pub spelling_moves : (old new : List ℕ) (k : ℕ) (rest p left : List ℕ) (l : ScriptLine) → pieces rest ≡ p ∷ pieces left → line_of_piece p ≡ Some l → new ≡ old ++ ended (line_text (spelled_line l))
    → after new (spelled_lines (k + 1) (pieces left)) ≡ after old (spelled_lines k (pieces rest))
spelling_moves old new k rest p left l cut is written =
    ap (λ bs. after bs (spelled_lines (k + 1) (pieces left))) written ∙ sym (turn spelled_at old (ended (line_text (spelled_line l))) tt tt k rest p left cut (line_spelled k p (Some l) is))

pub spelling_stops : (old : List ℕ) (k : ℕ) (rest p left : List ℕ) → pieces rest ≡ p ∷ pieces left → line_of_piece p ≡ None → meaning_of (after old (spelled_lines k (pieces rest))) ≡ Fault k
spelling_stops old k rest p left cut is = ap meaning_of (cause_turn spelled_at old tt k rest p (pieces left) k cut (line_spelled k p None is))

pub spelling_ends : (written : List ℕ) (k : ℕ) → meaning_of (after written (spelled_lines k (pieces []))) ≡ Output written
spelling_ends written k = ap meaning_of (nothing_left spelled_at written tt k)

abbrev spelled_pieces : List (List ℕ) → Run (Unit {0}) ℕ
spelled_pieces ps = run_then None (spelled_piece header_text 1 (header_of_piece (slice_index_or ps 0 []))) (λ s. lines_from spelled_at s 2 (drop 1 ps))

pub script_spelled : (script p left before : List ℕ) (h : ScriptHeader) → pieces script ≡ p ∷ pieces left → header_of_piece p ≡ Some h → before ≡ p → spelled script ≡ meaning_of (after before (spelled_lines 2 (pieces left)))
script_spelled script p left before h cut is same =
    ap (λ ps. meaning_of (spelled_pieces ps)) cut
    ∙ ap (λ o. meaning_of (run_then None (spelled_piece header_text 1 o) (λ s. lines_from spelled_at s 2 (pieces left)))) is
    ∙ ap (λ t. meaning_of (after t (spelled_lines 2 (pieces left)))) (sym (header_piece p h is) ∙ sym same)

pub nothing_spelled : (script : List ℕ) → script ≡ [] → spelled script ≡ Fault 1
unfolding header_of_piece
nothing_spelled script is = rw is refl

-- ---- a line means the same with its default
named_default : (own : Option Rounding) → option_or own own ≡ option_or None own
named_default None = refl
named_default (Some r) = refl

default_row : (op : Op) (t : OperandValues) → row_by (default_rounding op) op t ≡ row_by None op t
default_row op t = ap (λ r. exact op (unwrap_or r Down) t.a.bits t.b.bits t.c.bits t.a.fraction t.b.fraction t.c.fraction) (named_default (default_rounding op))

literals_alike : (dest : ℕ) (policy : Policy) (op : Op) (xs : Operands) (r q : Option Rounding) → literals_of (Apply dest policy op xs r) ≡ literals_of (Apply dest policy op xs q)
literals_alike dest policy op (OneRegister a) r q = refl
literals_alike dest policy op (TwoRegisters a b) r q = refl
literals_alike dest policy op (RegisterAndInt a k) r q = refl
literals_alike dest policy op (ThreeRegisters a b c) r q = refl

module _ (s : State) (k dest : ℕ) (policy : Policy) (op : Op) (xs : Operands) where
  abbrev spelled_out : ScriptLine
  spelled_out = Apply dest policy op xs (default_rounding op)

  abbrev plain : ScriptLine
  plain = Apply dest policy op xs None

  same_range : is_out_of_range s spelled_out ≡ is_out_of_range s plain
  unfolding is_out_of_range
  same_range =
      ap (λ ks. list_any (λ r. nat_le (length s.registers) r) (registers_of plain) || list_any (λ x. not (is_value s.word x)) ks)
      (literals_alike dest policy op xs (default_rounding op) None)

  same_cause : cause s spelled_out k ≡ cause s plain k
  unfolding is_unoffered is_mismatched
  same_cause =
      ap (λ b. if is_unoffered s.word plain then Some (Syntax k) else if b then Some (OutOfRange k) else if is_mismatched s plain then Some (FractionMismatch k) else late_cause_by row_by s spelled_out k) same_range
      ∙ ap (λ row. if is_unoffered s.word plain then Some (Syntax k) else if is_out_of_range s plain then Some (OutOfRange k) else if is_mismatched s plain then Some (FractionMismatch k) else row_cause (is_signed s.word) (width s.word) policy row op k)
      (default_row op (operand_values s.registers xs))

  same_answer : answer s spelled_out ≡ answer s plain
  unfolding answer_by
  same_answer = ap (project policy (is_signed s.word) (width s.word)) (default_row op (operand_values s.registers xs))

  same_step : step_by row_by s k (Some spelled_out) ≡ step_by row_by s k (Some plain)
  same_step = λ i. by_cause (same_cause i) (record { word = s.word; registers = stored s.registers dest (same_answer i) }, answer_text (same_answer i))

step_spelled : (s : State) (k : ℕ) (l : ScriptLine) → step_by row_by s k (Some (spelled_line l)) ≡ step_by row_by s k (Some l)
step_spelled s k (SetTo dest x) = refl
step_spelled s k (Apply dest policy op xs None) = same_step s k dest policy op xs
step_spelled s k (Apply dest policy op xs (Some r)) = refl

default_may : (op : Op) → may_round op (default_rounding op) ≡ true
default_may Neg = refl
default_may Add = refl
default_may Sub = refl
default_may Mul = refl
default_may Div = refl
default_may Recip = refl
default_may MulAdd = refl
default_may AddProd = refl
default_may MulInt = refl
default_may DivInt = refl
default_may DivEuclid = refl
default_may DivEuclidInt = refl
default_may RemEuclidInt = refl
default_may NextMultipleOf = refl
default_may Dist = refl
default_may Sqrt = refl
default_may Abs = refl
default_may Signum = refl
default_may Rem = refl
default_may RemInt = refl
default_may RemEuclid = refl
default_may NextPowerOfTwo = refl

still_line : (l : ScriptLine) → IsLine l → IsLine (spelled_line l)
still_line (SetTo dest k) is = is
still_line (Apply dest policy op xs None) is = (is.0, default_may op)
still_line (Apply dest policy op xs (Some r)) is = is

front_line : (o : Option (List ℕ)) (l : ScriptLine) → option_and_then line_of o ≡ Some l → IsLine l
front_line None l e = cc
front_line (Some t) l e = ((reads_lines t l).0 e).0

piece_line : (p : List ℕ) (l : ScriptLine) → line_of_piece p ≡ Some l → IsLine l
unfolding line_of_piece
piece_line p l e = front_line (body p) l e

-- ---- so do the lines, and the script
ended_pieces : (t more : List ℕ) → pieces (t ++ (10 ∷ more)) ≡ ended t ∷ pieces more → pieces (ended t ++ more) ≡ ended t ∷ pieces more
ended_pieces t more e = ap pieces (append_assoc t (10 ∷ []) more) ∙ e

abbrev KeepsLines : ℕ → List (List ℕ) → Type 0
KeepsLines k ps = (s : State) → (spelled_lines k ps).cause ≡ None → run_lines s k (pieces (spelled_lines k ps).output) ≡ run_lines s k ps

abbrev line_and_lines : ℕ → Option ScriptLine → List (List ℕ) → Run (Unit {0}) ℕ
line_and_lines k o ps = run_then (Some tt) (spelled_piece (λ l. line_text (spelled_line l)) k o) (λ u. lines_from spelled_at u (k + 1) ps)

piece_kept : (s : State) (k : ℕ) (p : List ℕ) (ps : List (List ℕ)) (o : Option ScriptLine) → line_of_piece p ≡ o → KeepsLines (k + 1) ps
    → (line_and_lines k o ps).cause ≡ None → run_lines s k (pieces (line_and_lines k o ps).output) ≡ run_then (Some s) (step_by row_by s k o) (λ t. run_lines t (k + 1) ps)
unfolding lines_from
piece_kept s k p ps None is keeps e = cc
piece_kept s k p ps (Some l) is keeps e =
    let t = line_text (spelled_line l) in
    let more = (spelled_lines (k + 1) ps).output in
    let cut = ended_pieces t more (pieces_ended t more (line_lacks (spelled_line l))) in
    ap (run_lines s k) cut
    ∙ ap (λ o. run_then (Some s) (step_by row_by s k o) (λ u. run_lines u (k + 1) (pieces more))) (line_read (spelled_line l) (still_line l (piece_line p l is)))
    ∙ (λ i. run_then (Some s) (step_spelled s k l i) (λ u. keeps u e i))

lines_kept : (ps : List (List ℕ)) (k : ℕ) → KeepsLines k ps
unfolding lines_from
lines_kept [] k s e = refl
lines_kept (p ∷ ps) k s e = piece_kept s k p ps (line_of_piece p) refl (lines_kept ps (k + 1)) e

abbrev header_and_lines : Option ScriptHeader → List (List ℕ) → Run (Unit {0}) ℕ
header_and_lines o ps = run_then None (spelled_piece header_text 1 o) (λ u. lines_from spelled_at u 2 ps)

header_kept : (o : Option ScriptHeader) (ps : List (List ℕ)) → (header_and_lines o ps).cause ≡ None → run_pieces (pieces (header_and_lines o ps).output) ≡ run_then None (started o) (λ s. run_lines s 2 ps)
header_kept None ps e = cc
header_kept (Some h) ps e =
    let more = (spelled_lines 2 ps).output in
    let cut = ended_pieces (header_text h) more (script_pieces h more) in
    ap run_pieces cut ∙ ap (λ o. run_then None (started o) (λ s. run_lines s 2 (pieces more))) (header_read h)
    ∙ (λ i. run_then None (started (Some h)) (λ s. lines_kept ps 2 s e i))

abbrev bytes_of : Meaning ℕ → List ℕ
bytes_of (Output bytes) = bytes
bytes_of (Fault k) = []

output_of : (run : Run (Unit {0}) ℕ) (bytes : List ℕ) (o : Option ℕ) → run.cause ≡ o → option_map_or Fault o (Output run.output) ≡ Output bytes → (run.cause ≡ None) × (run.output ≡ bytes)
output_of run bytes None is e = (is, ap bytes_of e)
output_of run bytes (Some k) is e = cc

pub keeps_meaning : KeepsMeaning
unfolding script_run
keeps_meaning script bytes e =
    let facts = output_of (spelled_run script) bytes (spelled_run script).cause refl e in
    ap (λ bs. meaning_of (run_pieces (pieces bs))) (sym facts.1)
    ∙ ap meaning_of (header_kept (header_of_piece (slice_index_or (pieces script) 0 [])) (drop 1 (pieces script)) facts.0)
