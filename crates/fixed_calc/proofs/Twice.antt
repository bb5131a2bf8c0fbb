-- The output of a script is at most twice as long as the script.
use Rattle.std.proofs.Common.{◌≡◌, ◌+◌, ◌*◌, ◌≤◌, ℕ, Bool, true, false, List, [], ◌∷◌, length, length-append, Option, Some, None, Ok, Err, refl, ap, arith, if◌then◌else◌}
use Rattle.std.specs.Option.{option_map_or}
use Rattle.std.specs.List.{concat}
use Rattle.fixed_word.specs.Pieces.{pieces}
use Rattle.fixed_text.specs.Runs.{Run, Output, Fault, lines_from, run_then}
use Rattle.fixed_machine.specs.Answers.{answer_text}
use Rattle.fixed_script.specs.Text.{ScriptHeader, ScriptLine}
use Rattle.fixed_machine.specs.Machine.{State, row_by, answer, cause, move}
use Rattle.fixed_machine.specs.Meaning.{step_by, script_run, started, start, has_wide, fractions_of, meaning}
use Rattle.fixed_machine.specs.inside.Lines.{by_cause, run_lines}
use Rattle.fixed_script.specs.Lines.{line_of_piece, header_of_piece}
use Rattle.fixed_machine.specs.declared.cause.Cause.{Cause}
use Rattle.fixed_machine.specs.declared.cause.Cause.TheVariants.{OutOfRange}
use Rattle.fixed_text.proofs.Cutting.{pieces_joined}
use Rattle.fixed_machine.proofs.Runs.{run_pieces}
use Rattle.fixed_machine.proofs.Short.{answer_fits}

-- a run without a cause, whose output is at most twice as long as the pieces
abbrev pub IsTwice : List (List ℕ) → Run State Cause → Type 0
IsTwice ps run = run.cause ≡ None → length run.output ≤ 2 * length (concat ps)

moved_twice : (s : State) (k : ℕ) (p : List ℕ) (ps : List (List ℕ)) (l : ScriptLine) (o : Option Cause) (next : State → Run State Cause) → line_of_piece p ≡ Some l → cause s l k ≡ o → IsTwice ps (next (move s l)) → IsTwice (p ∷ ps) (run_then (Some s) (by_cause o (move s l, answer_text (answer s l))) next)
moved_twice s k p ps l (Some c) next is e twice f = cc
moved_twice s k p ps l None next is e twice f =
    let short = answer_fits s p l k is e in
    let more : length (next (move s l)).output ≤ 2 * length (concat ps) = twice f in
    simp length-append (omega (arith, short, more))

step_twice : (s : State) (k : ℕ) (p : List ℕ) (ps : List (List ℕ)) (o : Option ScriptLine) (next : State → Run State Cause) → line_of_piece p ≡ o → ((t : State) → IsTwice ps (next t)) → IsTwice (p ∷ ps) (run_then (Some s) (step_by row_by s k o) next)
step_twice s k p ps None next is later f = cc
step_twice s k p ps (Some l) next is later f = moved_twice s k p ps l (cause s l k) next is refl (later (move s l)) f

lines_twice : (s : State) (k : ℕ) (ps : List (List ℕ)) → IsTwice ps (run_lines s k ps)
unfolding lines_from
lines_twice s k [] f = omega arith
lines_twice s k (p ∷ ps) f = step_twice s k p ps (line_of_piece p) (λ t. run_lines t (k + 1) ps) refl (λ t. lines_twice t (k + 1) ps) f

header_twice : (p : List ℕ) (ps : List (List ℕ)) (o : Option ScriptHeader) → IsTwice (p ∷ ps) (run_then None (started o) (λ s. run_lines s 2 ps))
header_twice p ps None f = cc
header_twice p ps (Some h) f = by_width (has_wide h.word (fractions_of h)) f
  where
    by_width : (b : Bool) → IsTwice (p ∷ ps) (run_then None (if b then Err (OutOfRange 1) else Ok (start h, [])) (λ s. run_lines s 2 ps))
    by_width true g = cc
    by_width false g = simp length-append (omega (arith, lines_twice (start h) 2 ps g))

pieces_twice : (ps : List (List ℕ)) → IsTwice ps (run_pieces ps)
unfolding header_of_piece
pieces_twice [] f = cc
pieces_twice (p ∷ ps) f = header_twice p ps (header_of_piece p) f

run_twice : (script : List ℕ) → IsTwice (pieces script) (script_run script)
unfolding script_run
run_twice script = pieces_twice (pieces script)

pub output_of : (output bytes : List ℕ) (cause : Option Cause) → option_map_or Fault cause (Output output) ≡ Output bytes → (cause ≡ None) × (output ≡ bytes)
output_of output bytes None e = (refl, cc)
output_of output bytes (Some c) e = cc

pub output_twice : (script bytes : List ℕ) → meaning script ≡ Output bytes → length bytes ≤ 2 * length script
output_twice script bytes e =
    let is = output_of (script_run script).output bytes (script_run script).cause e in
    omega (arith, run_twice script is.0, ap length is.1, ap length (pieces_joined script))
