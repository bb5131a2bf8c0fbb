-- A run, one line at a time.
use Rattle.std.proofs.Common.{◌≡◌, ◌+◌, ◌≤◌, ◌*◌, if◌then◌else◌, Bool, true, false, subst, ℕ, List, [], ◌∷◌, ◌++◌, map, length, drop, nat_lt, Option, Some, None, Ok, Err, Result, refl, sym, ap, ◌∙◌, arith}
use Rattle.std.specs.List.{All}
use Rattle.std.specs.Prelude.{slice_index_or}
use Rattle.std.proofs.lemmas.List.Elements.{All-nil, All-cons}
use Rattle.std.proofs.lemmas.Bool.Decides.{nat_tests}
use Rattle.fixed_text.specs.declared.names.WordName.{WordName}
use Rattle.fixed_text.specs.declared.names.WordName.TheVariants.{I8, I16, I32, I64, U8, U16, U32, U64}
use Rattle.fixed_machine.specs.declared.answer.Answer.{Answer}
use Rattle.fixed_machine.specs.Answers.{answer_text}
use Rattle.fixed_word.specs.Pieces.{pieces}
use Rattle.fixed_digits.specs.Numerals.{cap}
use Rattle.fixed_script.specs.Text.{ScriptHeader, ScriptLine}
use Rattle.fixed_machine.specs.Machine.{State, Cell, row_by, answer, move}
use Rattle.fixed_text.specs.Words.{width}
use Rattle.fixed_text.specs.Runs.{Run, run_then}
use Rattle.fixed_text.specs.inside.Ends.{after, stopped}
use Rattle.fixed_text.proofs.Turns.{nothing_left, turn, cause_turn}
use Rattle.fixed_machine.specs.Meaning.{step_by, script_run, started, start, has_wide, fractions_of, zeros}
use Rattle.fixed_machine.specs.inside.Lines.{by_cause, script_line, run_lines}
use Rattle.fixed_script.specs.Lines.{line_of_piece, header_of_piece}
use Rattle.fixed_machine.specs.Rooms.{Space, IsAnswerOfRun, HoldsState}
use Rattle.fixed_machine.specs.Step.{IsStepOfLine, state_in, IsCell}
use Rattle.fixed_machine.specs.declared.cause.Cause.{Cause}
use Rattle.fixed_machine.specs.declared.cause.Cause.TheVariants.{Syntax, OutOfRange}
use Rattle.fixed_machine.proofs.Causes.{zero_fits}
use Rattle.fixed_machine.proofs.Short.{answer_fits}

-- nothing is left to run
pub run_ends : (answers : List ℕ) (s : State) (k : ℕ) → after answers (run_lines s k (pieces [])) ≡ record { state = Some s; output = answers; cause = None }
run_ends answers s k = nothing_left script_line answers s k

-- a piece with a cause
fault_step : (s : State) (k : ℕ) (o : Option ScriptLine) (c : Cause) (cells : List Cell) → IsStepOfLine s o k (Err c) cells → step_by row_by s k o ≡ Err c
fault_step s k None c cells h = ap Err (sym h.0)
fault_step s k (Some l) c cells h = ap (λ o. by_cause o (move s l, answer_text (answer s l))) h.0

fault_cells : (s : State) (k : ℕ) (o : Option ScriptLine) (c : Cause) (cells : List Cell) → IsStepOfLine s o k (Err c) cells → cells ≡ s.registers
fault_cells s k None c cells h = h.1
fault_cells s k (Some l) c cells h = h.1

pub run_fault : (answers : List ℕ) (s : State) (k : ℕ) (rest p : List ℕ) (ps : List (List ℕ)) (c : Cause) (cells : List Cell) → pieces rest ≡ p ∷ ps → IsStepOfLine s (line_of_piece p) k (Err c) cells
    → after answers (run_lines s k (pieces rest)) ≡ record { state = Some s; output = answers; cause = Some c }
run_fault answers s k rest p ps c cells cut h = cause_turn script_line answers s k rest p ps c cut (fault_step s k (line_of_piece p) c cells h)

-- a piece that moves
move_step : (word : WordName) (cells cells' : List Cell) (k : ℕ) (o : Option ScriptLine) (a : Answer) → IsStepOfLine (state_in word cells) o k (Ok a) cells' → step_by row_by (state_in word cells) k o ≡ Ok (state_in word cells', answer_text a)
move_step word cells cells' k None a h = absurd h
move_step word cells cells' k (Some l) a h =
    let s = state_in word cells in
    ap (λ o. by_cause o (move s l, answer_text (answer s l))) h.0 ∙ (λ i. Ok (state_in word (sym h.2 i), answer_text (sym h.1 i)))

pub run_moves : (answers : List ℕ) (word : WordName) (cells cells' : List Cell) (k : ℕ) (rest p rest' : List ℕ) (a : Answer) → pieces rest ≡ p ∷ pieces rest' → IsStepOfLine (state_in word cells) (line_of_piece p) k (Ok a) cells'
    → after answers (run_lines (state_in word cells) k (pieces rest)) ≡ after (answers ++ answer_text a) (run_lines (state_in word cells') (k + 1) (pieces rest'))
run_moves answers word cells cells' k rest p rest' a cut h =
    turn script_line answers (answer_text a) (state_in word cells) (state_in word cells') k rest p rest' cut (move_step word cells cells' k (line_of_piece p) a h)

-- an answer has room
short_step : (s : State) (k : ℕ) (p : List ℕ) (o : Option ScriptLine) (a : Answer) (cells : List Cell) → line_of_piece p ≡ o → IsStepOfLine s o k (Ok a) cells → length (answer_text a) ≤ 2 * length p
short_step s k p None a cells is h = absurd h
short_step s k p (Some l) a cells is h = omega (arith, answer_fits s p l k is h.0, ap (λ (b : Answer). length (answer_text b)) h.1)

pub move_short : (s : State) (k : ℕ) (p : List ℕ) (a : Answer) (cells : List Cell) → IsStepOfLine s (line_of_piece p) k (Ok a) cells → length (answer_text a) ≤ 2 * length p
move_short s k p a cells h = short_step s k p (line_of_piece p) a cells refl h

-- what a room says that stands where a run ends
pub told_end : (r : Run State Cause) (s : State) (answers : List ℕ) (room : Space) → r ≡ record { state = Some s; output = answers; cause = None } → room.answers ≡ answers → room.word ≡ Some s.word → room.registers ≡ s.registers → IsAnswerOfRun r (Ok (tt {0})) room
told_end r s answers room e a w g = (ap (λ (x : Run State Cause). x.cause) e, record { its_answers = a ∙ sym (ap (λ (x : Run State Cause). x.output) e); its_state = subst (λ (st : Option State). HoldsState st room) (sym (ap (λ (x : Run State Cause). x.state) e)) (w, g) })

pub told_fault : (r : Run State Cause) (s : State) (k : ℕ) (p : List ℕ) (answers : List ℕ) (c : Cause) (room : Space) → r ≡ record { state = Some s; output = answers; cause = Some c } → room.answers ≡ answers → room.word ≡ Some s.word → IsStepOfLine s (line_of_piece p) k (Err c) room.registers → IsAnswerOfRun r (Err c) room
told_fault r s k p answers c room e a w h =
    (ap (λ (x : Run State Cause). x.cause) e, record { its_answers = a ∙ sym (ap (λ (x : Run State Cause). x.output) e); its_state = subst (λ (st : Option State). HoldsState st room) (sym (ap (λ (x : Run State Cause). x.state) e)) (w, fault_cells s k (line_of_piece p) c room.registers h) })

-- ---- the header
abbrev pub run_pieces : List (List ℕ) → Run State Cause
run_pieces ps = run_then None (started (header_of_piece (slice_index_or ps 0 []))) (λ s. run_lines s 2 (drop 1 ps))

pub run_of_nil : (script : List ℕ) → script ≡ [] → script_run script ≡ stopped None (Syntax 1)
unfolding script_run header_of_piece
run_of_nil script is = rw is refl

module _ (script p : List ℕ) (ps : List (List ℕ)) (cut : pieces script ≡ p ∷ ps) where
  pub run_of_pieces : (h : Option ScriptHeader) → header_of_piece p ≡ h → script_run script ≡ run_then None (started h) (λ s. run_lines s 2 ps)
  unfolding script_run
  run_of_pieces h is = ap run_pieces cut ∙ ap (λ h. run_then None (started h) (λ s. run_lines s 2 ps)) is

  pub run_of_wide : (h : ScriptHeader) → header_of_piece p ≡ Some h → has_wide h.word (fractions_of h) ≡ true → script_run script ≡ stopped None (OutOfRange 1)
  run_of_wide h is wide = run_of_pieces (Some h) is ∙ ap (λ (b : Bool). run_then None (if b then Err (OutOfRange 1) else Ok (start h, [])) (λ s. run_lines s 2 ps)) wide

  pub run_of_lines : (h : ScriptHeader) → header_of_piece p ≡ Some h → has_wide h.word (fractions_of h) ≡ false → script_run script ≡ run_lines (start h) 2 ps
  run_of_lines h is narrow = run_of_pieces (Some h) is ∙ ap (λ (b : Bool). run_then None (if b then Err (OutOfRange 1) else Ok (start h, [])) (λ s. run_lines s 2 ps)) narrow

pub told_none : (r : Run State Cause) (c : Cause) (room : Space) → r ≡ stopped None c → room.answers ≡ [] → room.word ≡ None → room.registers ≡ [] → IsAnswerOfRun r (Err c) room
told_none r c room e a w g = (ap (λ (x : Run State Cause). x.cause) e, record { its_answers = a ∙ sym (ap (λ (x : Run State Cause). x.output) e); its_state = subst (λ (st : Option State). HoldsState st room) (sym (ap (λ (x : Run State Cause). x.state) e)) (w, g) })

-- what the lines say, from a started room, is what the script says
pub told_started : (script rest : List ℕ) (h : ScriptHeader) (word : WordName) (r : Result (Unit {0}) Cause) (started room : Space) → script_run script ≡ run_lines (start h) 2 (pieces rest) → word ≡ h.word → started.answers ≡ [] → started.registers ≡ (start h).registers
    → IsAnswerOfRun (after started.answers (run_lines (state_in word started.registers) 2 (pieces rest))) r room → IsAnswerOfRun (script_run script) r room
told_started script rest h word r started room e v a g tells =
    subst (λ (x : Run State Cause). IsAnswerOfRun x r room) (sym (e ∙ (λ i. after (sym a i) (run_lines (state_in (sym v i) (sym g i)) 2 (pieces rest))))) tells

-- ---- capped fractions
width_small : (w : WordName) → width w ≤ 64
width_small I8 = omega arith
width_small I16 = omega arith
width_small I32 = omega arith
width_small I64 = omega arith
width_small U8 = omega arith
width_small U16 = omega arith
width_small U32 = omega arith
width_small U64 = omega arith

cap_wide : (w : WordName) (f : ℕ) → nat_lt (width w) (cap f) ≡ nat_lt (width w) f
cap_wide w f = let small = width_small w in grind (arith, nat_tests)

pub caps_wide : (w : WordName) (fs : List ℕ) → has_wide w (map cap fs) ≡ has_wide w fs
caps_wide w [] = refl
caps_wide w (f ∷ fs) = rw (cap_wide w f, caps_wide w fs) refl

pub caps_narrow : (w : WordName) (fs : List ℕ) → has_wide w fs ≡ false → map cap fs ≡ fs
caps_narrow w [] h = refl
caps_narrow w (f ∷ fs) h =
    let small = width_small w in
    let first : nat_lt (width w) f ≡ false = grind (arith, nat_tests) in
    let rest : has_wide w fs ≡ false = grind (arith, nat_tests) in
    let same : cap f ≡ f = grind (arith, nat_tests) in
    ap (λ (x : ℕ). x ∷ map cap fs) same ∙ ap (λ (xs : List ℕ). f ∷ xs) (caps_narrow w fs rest)

-- registers of bits 0 are those of a word where no fraction is too wide
pub zeros_fit : (w : WordName) (fs : List ℕ) → has_wide w fs ≡ false → All (IsCell w) (zeros fs)
zeros_fit w [] h = All-nil (IsCell w)
zeros_fit w (f ∷ fs) h =
    let first : nat_lt (width w) f ≡ false = grind (arith, nat_tests) in
    let rest : has_wide w fs ≡ false = grind (arith, nat_tests) in
    All-cons (IsCell w) _ _ (record { value = zero_fits w; fraction = grind (arith, nat_tests) }) (zeros_fit w fs rest)
