-- The run of a demonstration.
use Rattle.std.proofs.Common.{◌≡◌, ◌+◌, ℕ, zero, suc, true, List, [], ◌∷◌, ◌++◌, map, length, replicate, Option, Some, None, Err, refl, sym, ap, ◌∙◌, subst, arith, append_assoc, length-append}
use Rattle.std.specs.Option.{option_map_or}
use Rattle.std.specs.List.{All, flat_map}
use Rattle.std.specs.Cmp.Derive.{both_true}
use Rattle.std.proofs.lemmas.List.Elements.{All-nil, All-cons}
use Rattle.fixed_word.specs.Pieces.{pieces}
use Rattle.fixed_machine.specs.declared.cause.Cause.{Cause}
use Rattle.fixed_machine.specs.declared.cause.ScriptFault.{ScriptFault}
use Rattle.fixed_machine.specs.declared.cause.ScriptFault.TheVariants.{Script}
use Rattle.fixed_machine.specs.Rooms.{IsAnswerOfMeaning}
use Rattle.fixed_machine.specs.Answers.{answer_text, ended}
use Rattle.fixed_script.specs.Text.{header_text, header_tokens, ScriptLine, line_text}
use Rattle.fixed_script.specs.Lines.{line_of_piece}
use Rattle.fixed_machine.specs.Machine.{State, Cell, row_by, cause, answer, move}
use Rattle.fixed_text.specs.Runs.{Run, Output, Fault, lines_from, run_then}
use Rattle.fixed_machine.specs.Meaning.{step_by, script_run, start, zeros, fractions_of, meaning}
use Rattle.fixed_machine.specs.inside.Lines.{by_cause, run_lines}
use Rattle.fixed_calc.specs.Demo.{demo_header, demo_lines, demo_text, answers_from, demo_answers}
use Rattle.fixed_text.proofs.Ended.{pieces_ended}
use Rattle.fixed_machine.proofs.Ended.{line_read, header_read}
use Rattle.fixed_machine.proofs.Runs.{run_of_lines}
use Rattle.fixed_digits.proofs.Lacking.{lacks, naturals_lack, joined_lack}
use Rattle.fixed_calc.proofs.Drawn.{IsReady, IsDrawn, stays_ready, lines_drawn}

-- ---- lines
abbrev ended_line : ScriptLine → List ℕ
ended_line l = ended (line_text l)

rest_drawn : (l : ScriptLine) (ls : List ScriptLine) → All IsDrawn (l ∷ ls) → All IsDrawn ls
rest_drawn l ls all = λ i d lt. all (suc i) d (omega arith)

pieces_lines : (ls : List ScriptLine) → All IsDrawn ls → pieces (flat_map ended_line ls) ≡ map ended_line ls
pieces_lines [] all = refl
pieces_lines (l ∷ ls) all =
    let first : IsDrawn l = all 0 l (omega arith) in
    ap pieces (append_assoc (line_text l) (10 ∷ []) (flat_map ended_line ls))
    ∙ pieces_ended (line_text l) (flat_map ended_line ls) first.one_piece
    ∙ ap (λ ps. ended_line l ∷ ps) (pieces_lines ls (rest_drawn l ls all))

-- the run has no cause, and this output
pub record Gives (run : Run State Cause) (bytes : List ℕ) : Type 0 where
  pub no_cause : run.cause ≡ None
  pub its_output : run.output ≡ bytes

step_gives : (s : State) (k : ℕ) (p : List ℕ) (l : ScriptLine) (bytes : List ℕ) (next : State → Run State Cause) → line_of_piece p ≡ Some l → cause s l k ≡ None → Gives (next (move s l)) bytes → Gives (run_then (Some s) (step_by row_by s k (line_of_piece p)) next) (answer_text (answer s l) ++ bytes)
step_gives s k p l bytes next is none later =
    subst (λ (o : Option ScriptLine). Gives (run_then (Some s) (step_by row_by s k o) next) (answer_text (answer s l) ++ bytes)) (sym is)
    (subst (λ (o : Option Cause). Gives (run_then (Some s) (by_cause o (move s l, answer_text (answer s l))) next) (answer_text (answer s l) ++ bytes)) (sym none)
    (record { no_cause = later.no_cause; its_output = ap (λ (bs : List ℕ). answer_text (answer s l) ++ bs) later.its_output }))

lines_give : (s : State) (k : ℕ) (ls : List ScriptLine) → IsReady s → All IsDrawn ls → Gives (run_lines s k (map ended_line ls)) (flat_map answer_text (answers_from s ls))
unfolding lines_from
lines_give s k [] ready all = record { no_cause = refl; its_output = refl }
lines_give s k (l ∷ ls) ready all =
    let first : IsDrawn l = all 0 l (omega arith) in
    step_gives s k (ended_line l) l (flat_map answer_text (answers_from (move s l) ls)) (λ t. run_lines t (k + 1) (map ended_line ls)) (line_read l first.is_line) (first.no_cause s k ready)
    (lines_give (move s l) (k + 1) ls (stays_ready s l ready first.there) (rest_drawn l ls all))

-- ---- the script
zeros_eight : (n f : ℕ) → length (zeros (replicate n f)) ≡ n
zeros_eight zero f = refl
zeros_eight (suc n) f = ap suc (zeros_eight n f)

zeros_fraction : (n f : ℕ) → All (λ (c : Cell). c.fraction ≡ f) (zeros (replicate n f))
zeros_fraction zero f = All-nil (λ (c : Cell). c.fraction ≡ f)
zeros_fraction (suc n) f = All-cons (λ (c : Cell). c.fraction ≡ f) _ _ refl (zeros_fraction n f)

start_ready : IsReady (start demo_header)
start_ready = record { word = refl; eight = zeros_eight 8 32; fractions = zeros_fraction 8 32 }

header_lacks : lacks 10 (header_text demo_header) ≡ true
header_lacks = joined_lack (header_tokens demo_header) (both_true refl (naturals_lack 10 (fractions_of demo_header) refl))

demo_pieces : (n : ℕ) → pieces (demo_text n) ≡ ended (header_text demo_header) ∷ map ended_line (demo_lines n)
unfolding demo_text
demo_pieces n =
    ap pieces (append_assoc (header_text demo_header) (10 ∷ []) (flat_map ended_line (demo_lines n)))
    ∙ pieces_ended (header_text demo_header) (flat_map ended_line (demo_lines n)) header_lacks
    ∙ ap (λ ps. ended (header_text demo_header) ∷ ps) (pieces_lines (demo_lines n) (lines_drawn n))

demo_gives : (n : ℕ) → Gives (script_run (demo_text n)) (flat_map answer_text (demo_answers n))
unfolding demo_answers
demo_gives n =
    subst (λ (r : Run State Cause). Gives r (flat_map answer_text (answers_from (start demo_header) (demo_lines n))))
    (sym (run_of_lines (demo_text n) (ended (header_text demo_header)) (map ended_line (demo_lines n)) (demo_pieces n) demo_header (header_read demo_header) refl))
    (lines_give (start demo_header) 2 (demo_lines n) start_ready (lines_drawn n))

pub demo_no_cause : (n : ℕ) → (script_run (demo_text n)).cause ≡ None
demo_no_cause n = (demo_gives n).no_cause

pub demo_output : (n : ℕ) → meaning (demo_text n) ≡ Output (flat_map answer_text (demo_answers n))
demo_output n = (λ i. option_map_or Fault ((demo_gives n).no_cause i) (Output ((demo_gives n).its_output i)))

answers_length : (s : State) (ls : List ScriptLine) → length (answers_from s ls) ≡ length ls
answers_length s [] = refl
answers_length s (l ∷ ls) = ap suc (answers_length (move s l) ls)

lines_length : (n : ℕ) → length (demo_lines n) ≡ n
unfolding demo_lines
lines_length zero = refl
lines_length (suc i) = omega (arith, lines_length i, length-append {A = ScriptLine})

pub demo_one_each : (n : ℕ) → length (demo_answers n) ≡ n
unfolding demo_answers
demo_one_each n = answers_length (start demo_header) (demo_lines n) ∙ lines_length n

-- what a run of the script answers
pub never_faults : (n : ℕ) (script : List ℕ) (fault : ScriptFault) (cause : Cause) → script ≡ demo_text n → IsAnswerOfMeaning (meaning script) (Err fault) → fault ≡ Script cause → ⊥
never_faults n script fault cause is tells e =
    let faulty : meaning script ≡ Fault cause = rw e at tells in
    let fine : meaning script ≡ Output (flat_map answer_text (demo_answers n)) = ap meaning is ∙ demo_output n in
    cc

pub its_answers : (n : ℕ) (script answers : List ℕ) → script ≡ demo_text n → meaning script ≡ Output answers → answers ≡ flat_map answer_text (demo_answers n)
its_answers n script answers is e =
    let both_are : Output answers ≡ Output (flat_map answer_text (demo_answers n)) = sym e ∙ ap meaning is ∙ demo_output n in
    cc
