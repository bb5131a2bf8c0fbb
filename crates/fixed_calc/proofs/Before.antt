-- A script without a rounding word has the meaning that it had before.
use Rattle.std.proofs.Common.{◌≡◌, ℕ, suc, ℤ, Bool, true, false, List, [], ◌∷◌, ◌++◌, drop, Option, Some, None, Result, if◌then◌else◌, refl, sym, ap, subst, ◌∙◌, arith, append_assoc}
use Rattle.std.specs.Option.{option_map, option_and_then}
use Rattle.std.specs.Prelude.{slice_index_or}
use Rattle.std.specs.List.{All, join_with_byte}
use Rattle.std.specs.Str.{bytes_eq}
use Rattle.std.proofs.lemmas.Bool.{false≢true}
use Rattle.std.proofs.lemmas.Slice.Eq.{bytes_eq-Decides}
use Rattle.std.proofs.lemmas.Option.{same_Some}
use Rattle.fixed_word.specs.declared.rounding.Rounding.{Rounding}
use Rattle.fixed_word.specs.Pieces.{pieces, body}
use Rattle.fixed_text.specs.Tokens.{tokens_of}
use Rattle.fixed_text.specs.Words.{is_signed, width}
use Rattle.fixed_script.specs.declared.names.Policy.{Policy}
use Rattle.fixed_script.specs.declared.names.Op.{Op}
use Rattle.fixed_script.specs.declared.names.Op.TheVariants.{Neg, Add, Sub, Mul, Div, Recip, MulAdd, AddProd, MulInt, DivInt, DivEuclid, DivEuclidInt, RemEuclidInt, NextMultipleOf, Dist, Sqrt, Abs, Signum, Rem, RemInt, RemEuclid, NextPowerOfTwo}
use Rattle.fixed_script.specs.Names.{policy_name, op_name, rounding_name}
use Rattle.fixed_script.specs.Text.{ScriptLine, SetTo, Apply, Operands, IsLine, register_text, operand_tokens, line_text}
use Rattle.fixed_text.specs.Inverse.{if_its_text}
use Rattle.fixed_script.specs.Lines.{line_in, line_of, line_of_piece, header_of_piece}
use Rattle.fixed_script.proofs.Joined.{tokens_of_line}
use Rattle.fixed_text.proofs.Inverses.{its_text, has_text}
use Rattle.fixed_script.proofs.TextsRead.{line_back, line_is}
use Rattle.fixed_machine.specs.Answers.{answer_text}
use Rattle.fixed_machine.specs.Projection.{project}
use Rattle.fixed_machine.specs.Rows.{exact}
use Rattle.fixed_machine.specs.Machine.{State, OperandValues, operand_values, row_of, row_by, row_cause, is_unoffered, is_out_of_range, is_mismatched, stored, answer_by}
use Rattle.fixed_text.specs.Runs.{meaning_of, run_then}
use Rattle.fixed_text.proofs.Turns.{lines_alike}
use Rattle.fixed_machine.specs.Meaning.{step_by, started, script_run}
use Rattle.fixed_machine.specs.inside.Lines.{by_cause, script_line}
use Rattle.fixed_machine.specs.declared.cause.Cause.{Cause}
use Rattle.fixed_machine.specs.declared.cause.Cause.TheVariants.{Syntax, OutOfRange, FractionMismatch}
use Rattle.fixed_calc.specs.Before.{old_row, names_none, without_rounding, old_line_of, old_line_of_piece, ReadsOldLines, EndsInRounding, MeansAsBefore}
use Rattle.fixed_calc.proofs.Headed.{body_by}

-- ---- the old reading
free_of_rounding : (l : ScriptLine) → names_none (without_rounding l) ≡ true
free_of_rounding (SetTo dest k) = refl
free_of_rounding (Apply dest policy op xs r) = refl

still_line : (l : ScriptLine) → IsLine l → IsLine (without_rounding l)
still_line (SetTo dest k) is = tt
still_line (Apply dest policy op xs r) is = (is.0, refl)

free_is_itself : (l : ScriptLine) → names_none l ≡ true → without_rounding l ≡ l
free_is_itself (SetTo dest k) free = refl
free_is_itself (Apply dest policy op xs None) free = refl
free_is_itself (Apply dest policy op xs (Some r)) free = cc

mapped : (o : Option ScriptLine) (l : ScriptLine) → option_map without_rounding o ≡ Some l → (m : ScriptLine) × (o ≡ Some m) × (without_rounding m ≡ l)
mapped None l e = cc
mapped (Some m) l e = (m, refl, same_Some (without_rounding m) l e)

pub reads_old_lines : ReadsOldLines
unfolding old_line_of
reads_old_lines piece l = (
  λ e.
      let t = its_text line_text piece (option_map without_rounding (line_in (tokens_of piece))) l e in
      let m = mapped (line_in (tokens_of piece)) l t.0 in
      let is = still_line m.0 (line_is (tokens_of piece) m.0 m.1) in
      (subst IsLine m.2 is, subst (λ k. names_none k ≡ true) m.2 (free_of_rounding m.0), t.1),
  λ h.
      let read : line_in (tokens_of piece) ≡ Some l = ap (λ (p : List ℕ). line_in (tokens_of p)) (sym h.2) ∙ ap line_in (tokens_of_line l) ∙ line_back l h.0 in
      has_text line_text piece (option_map without_rounding (line_in (tokens_of piece))) l (ap (option_map without_rounding) read ∙ ap Some (free_is_itself l h.1)) h.2,
)

-- ---- a line that names a rounding ends in its name
pub join_last : (t : List ℕ) (us : List (List ℕ)) (v : List ℕ) → join_with_byte 32 (t ∷ (us ++ (v ∷ []))) ≡ join_with_byte 32 (t ∷ us) ++ (32 ∷ v)
join_last t [] v = refl
join_last t (u ∷ us) v = ap (λ zs. t ++ (32 ∷ zs)) (join_last u us v) ∙ sym (append_assoc t (32 ∷ join_with_byte 32 (u ∷ us)) (32 ∷ v))

abbrev Ends : List ℕ → Type 0
Ends bytes = (front : List ℕ) × (rounding : Rounding) × (bytes ≡ front ++ (32 ∷ rounding_name rounding))

named_ends : (dest : ℕ) (policy : Policy) (op : Op) (xs : Operands) (r : Rounding) → Ends (line_text (Apply dest policy op xs (Some r)))
named_ends dest policy op xs r = (
  join_with_byte 32 (register_text dest ∷ policy_name policy ∷ op_name op ∷ operand_tokens xs),
  r,
  join_last (register_text dest) (policy_name policy ∷ op_name op ∷ operand_tokens xs) (rounding_name r),
)

piece_ends : (piece front : List ℕ) → body piece ≡ Some front → Ends front → EndsInRounding piece
piece_ends piece front is ends = (
  ends.0,
  ends.1,
  body_by piece front _ refl is ∙ ap (λ (f : List ℕ). f ++ (10 ∷ [])) ends.2,
)

-- ---- such a line is read as before
no_text : (text front : List ℕ) (l : ScriptLine) → (text ≡ front → ⊥) → (if bytes_eq text front then Some l else None) ≡ None
no_text text front l apart = by_test (bytes_eq text front) refl
  where
    by_test : (b : Bool) → bytes_eq text front ≡ b → (if b then Some l else None) ≡ None
    by_test false is = refl
    by_test true is = absurd (apart ((bytes_eq-Decides text front).0 is))

-- the tokens are those of one line alone
one_reading : (front : List ℕ) (dest : ℕ) (policy : Policy) (op : Op) (xs : Operands) (r : Rounding) → line_in (tokens_of front) ≡ Some (Apply dest policy op xs (Some r))
    → line_text (Apply dest policy op xs None) ≡ front → ⊥
one_reading front dest policy op xs r read text =
    let plain = Apply dest policy op xs None in
    let is = line_is (tokens_of front) (Apply dest policy op xs (Some r)) read in
    let again : line_in (tokens_of front) ≡ Some plain = ap (λ (p : List ℕ). line_in (tokens_of p)) (sym text) ∙ ap line_in (tokens_of_line plain) ∙ line_back plain (is.0, refl) in
    let same : Apply dest policy op xs (Some r) ≡ plain = same_Some (Apply dest policy op xs (Some r)) plain (sym read ∙ again) in
    false≢true (ap names_none same)

read_alike : (front : List ℕ) (o : Option ScriptLine) → line_in (tokens_of front) ≡ o → (Ends front → ⊥) → if_its_text line_text front o ≡ if_its_text line_text front (option_map without_rounding o)
read_alike front None is apart = refl
read_alike front (Some (SetTo dest k)) is apart = refl
read_alike front (Some (Apply dest policy op xs None)) is apart = refl
read_alike front (Some (Apply dest policy op xs (Some r))) is apart =
    no_text (line_text (Apply dest policy op xs (Some r))) front (Apply dest policy op xs (Some r)) (λ e. apart (subst Ends e (named_ends dest policy op xs r)))
    ∙ sym (no_text (line_text (Apply dest policy op xs None)) front (Apply dest policy op xs None) (one_reading front dest policy op xs r is))

front_alike : (front : List ℕ) → (Ends front → ⊥) → line_of front ≡ old_line_of front
unfolding line_of old_line_of
front_alike front apart = read_alike front (line_in (tokens_of front)) refl apart

body_alike : (piece : List ℕ) (o : Option (List ℕ)) → body piece ≡ o → (EndsInRounding piece → ⊥) → option_and_then line_of o ≡ option_and_then old_line_of o
body_alike piece None is apart = refl
body_alike piece (Some front) is apart = front_alike front (λ ends. apart (piece_ends piece front is ends))

piece_alike : (piece : List ℕ) → (EndsInRounding piece → ⊥) → line_of_piece piece ≡ old_line_of_piece piece
unfolding line_of_piece old_line_of_piece
piece_alike piece apart = body_alike piece (body piece) refl apart

old_free : (piece : List ℕ) (o : Option (List ℕ)) (l : ScriptLine) → option_and_then old_line_of o ≡ Some l → names_none l ≡ true
old_free piece None l e = cc
old_free piece (Some front) l e = ((reads_old_lines front l).0 e).1

piece_free : (piece : List ℕ) (l : ScriptLine) → old_line_of_piece piece ≡ Some l → names_none l ≡ true
unfolding old_line_of_piece
piece_free piece l e = old_free piece (body piece) l e

-- ---- and moves as before
same_row : (op : Op) (t : OperandValues) → row_of op t ≡ old_row None op t
unfolding exact
same_row Neg t = refl
same_row Add t = refl
same_row Sub t = refl
same_row Mul t = refl
same_row Div t = refl
same_row Recip t = refl
same_row MulAdd t = refl
same_row AddProd t = refl
same_row MulInt t = refl
same_row DivInt t = refl
same_row DivEuclid t = refl
same_row DivEuclidInt t = refl
same_row RemEuclidInt t = refl
same_row NextMultipleOf t = refl
same_row Dist t = refl
same_row Sqrt t = refl
same_row Abs t = refl
same_row Signum t = refl
same_row Rem t = refl
same_row RemInt t = refl
same_row RemEuclid t = refl
same_row NextPowerOfTwo t = refl

-- the step of a line that names no rounding, by its row
abbrev row_step : State → ℕ → ℕ → Policy → Op → Operands → Option ℤ → Result (State × List ℕ) Cause
row_step s k dest policy op xs row =
    let line = Apply dest policy op xs None in
    let given = project policy (is_signed s.word) (width s.word) row in
    by_cause
    (if is_unoffered s.word line then Some (Syntax k) else if is_out_of_range s line then Some (OutOfRange k) else if is_mismatched s line then Some (FractionMismatch k) else row_cause (is_signed s.word) (width s.word) policy row op k)
    (record { word = s.word; registers = stored s.registers dest given }, answer_text given)

step_alike : (s : State) (k : ℕ) (o : Option ScriptLine) → ((l : ScriptLine) → o ≡ Some l → names_none l ≡ true) → step_by row_by s k o ≡ step_by old_row s k o
unfolding answer_by
step_alike s k None free = refl
step_alike s k (Some (SetTo dest x)) free = refl
step_alike s k (Some (Apply dest policy op xs None)) free = ap (row_step s k dest policy op xs) (same_row op (operand_values s.registers xs))
step_alike s k (Some (Apply dest policy op xs (Some r))) free = absurd (false≢true (free _ refl))

abbrev old_line : State → ℕ → List ℕ → Result (State × List ℕ) Cause
old_line s k piece = step_by old_row s k (old_line_of_piece piece)

abbrev Fine : List ℕ → Type 0
Fine piece = EndsInRounding piece → ⊥

line_alike : (s : State) (k : ℕ) (p : List ℕ) → Fine p → script_line s k p ≡ old_line s k p
line_alike s k p apart = ap (step_by row_by s k) (piece_alike p apart) ∙ step_alike s k (old_line_of_piece p) (piece_free p)

others_fine : (ps : List (List ℕ)) → All Fine ps → All Fine (drop 1 ps)
others_fine [] free = free
others_fine (p ∷ ps) free = λ i d lt. free (suc i) d (omega arith)

pub means_as_before : MeansAsBefore
unfolding script_run
means_as_before script free =
    let ps = pieces script in
    λ i. meaning_of (run_then None (started (header_of_piece (slice_index_or ps 0 []))) (λ s. lines_alike script_line old_line Fine line_alike s 2 (drop 1 ps) (others_fine ps free) i))
