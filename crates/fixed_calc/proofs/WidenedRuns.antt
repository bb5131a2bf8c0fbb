-- A script with a wider word in its header.
use Rattle.std.proofs.Common.{◌≡◌, ◌+◌, ◌≤◌, ℕ, Bool, true, false, nat_lt, List, [], ◌∷◌, ◌++◌, Option, Some, None, refl, sym, ap, ◌∙◌, arith}
use Rattle.std.specs.Option.{option_map_or}
use Rattle.std.specs.Cmp.Derive.{both_true}
use Rattle.std.proofs.lemmas.Bool.Decides.{nat_tests}
use Rattle.fixed_word.specs.Pieces.{pieces}
use Rattle.fixed_script.specs.Lines.{line_of_piece}
use Rattle.fixed_text.specs.declared.names.WordName.{WordName}
use Rattle.fixed_machine.specs.declared.cause.Cause.{Cause}
use Rattle.fixed_text.specs.Words.{width}
use Rattle.fixed_machine.specs.Answers.{answer_text, ended}
use Rattle.fixed_script.specs.Text.{ScriptHeader, header_text, header_tokens, ScriptLine}
use Rattle.fixed_machine.specs.Machine.{State, row_by, cause, answer, move}
use Rattle.fixed_text.specs.Runs.{Run, Output, Fault, lines_from, run_then}
use Rattle.fixed_text.specs.inside.Ends.{after}
use Rattle.fixed_machine.specs.Meaning.{step_by, script_run, start, has_wide, fractions_of, meaning}
use Rattle.fixed_machine.specs.inside.Lines.{by_cause, run_lines}
use Rattle.fixed_calc.specs.Widening.{IsWider, script_of, with_word, row_fits, fits_then, rows_fit}
use Rattle.fixed_digits.proofs.Decimals.{both}
use Rattle.fixed_digits.proofs.Lacking.{naturals_lack, joined_lack}
use Rattle.fixed_machine.proofs.Runs.{run_of_lines, run_of_wide}
use Rattle.fixed_calc.proofs.Twice.{output_of}
use Rattle.fixed_text.proofs.Ended.{pieces_ended, word_lacks}
use Rattle.fixed_machine.proofs.Ended.{header_read}
use Rattle.fixed_calc.proofs.Wider.{widened, still_no_cause, same_answer, same_move}

-- ---- lines
-- where the first run has no cause, the second has none, and the same output
abbrev IsAlike : Run State Cause → Run State Cause → Type 0
IsAlike narrow wide = narrow.cause ≡ None → (wide.cause ≡ None) × (wide.output ≡ narrow.output)

module _ (wide : WordName) where
  -- runs of lines from a state on are alike
  abbrev AreAlike : ℕ → List (List ℕ) → State → Type 0
  AreAlike k ps s = IsWider s.word wide → rows_fit s ps ≡ true → IsAlike (run_lines s k ps) (run_lines (widened wide s) k ps)

  moved : (s : State) (k : ℕ) (l : ScriptLine) (next : State → Run State Cause) → IsWider s.word wide → row_fits s l ≡ true → cause s l k ≡ None
      → run_then (Some (widened wide s)) (step_by row_by (widened wide s) k (Some l)) next ≡ after (answer_text (answer s l)) (next (widened wide (move s l)))
  moved s k l next wider fit none =
      let t = widened wide s in
      ap (λ (o : Option Cause). run_then (Some t) (by_cause o (move t l, answer_text (answer t l))) next) (still_no_cause s wide wider l k fit none)
      ∙ (λ i. after (answer_text (same_answer s wide wider l fit i)) (next (same_move s wide wider l fit i)))

  one_line : (s : State) (k : ℕ) (ps : List (List ℕ)) (l : ScriptLine) (o : Option Cause) → cause s l k ≡ o → IsWider s.word wide → row_fits s l ≡ true
      → IsAlike (run_lines (move s l) (k + 1) ps) (run_lines (widened wide (move s l)) (k + 1) ps)
      → IsAlike (run_then (Some s) (by_cause o (move s l, answer_text (answer s l))) (λ t. run_lines t (k + 1) ps)) (run_then (Some (widened wide s)) (step_by row_by (widened wide s) k (Some l)) (λ t. run_lines t (k + 1) ps))
  one_line s k ps l (Some c) is wider fit later fine = cc
  one_line s k ps l None is wider fit later fine =
      let e = moved s k l (λ t. run_lines t (k + 1) ps) wider fit is in
      let rest = later fine in
      (ap (λ (r : Run State Cause). r.cause) e ∙ rest.0, ap (λ (r : Run State Cause). r.output) e ∙ ap (λ (bytes : List ℕ). answer_text (answer s l) ++ bytes) rest.1)

  one_piece : (s : State) (k : ℕ) (ps : List (List ℕ)) (o : Option ScriptLine) → ((t : State) → AreAlike (k + 1) ps t) → IsWider s.word wide → fits_then s o (λ t. rows_fit t ps) ≡ true
      → IsAlike (run_then (Some s) (step_by row_by s k o) (λ t. run_lines t (k + 1) ps)) (run_then (Some (widened wide s)) (step_by row_by (widened wide s) k o) (λ t. run_lines t (k + 1) ps))
  one_piece s k ps None later wider fit fine = cc
  one_piece s k ps (Some l) later wider fit fine =
      let parts = both (row_fits s l) (rows_fit (move s l) ps) fit in
      one_line s k ps l (cause s l k) refl wider parts.0 (later (move s l) wider parts.1) fine

  lines_alike : (k : ℕ) (ps : List (List ℕ)) (s : State) → AreAlike k ps s
  unfolding lines_from rows_fit
  lines_alike k [] s wider fit fine = (refl, refl)
  lines_alike k (p ∷ ps) s wider fit fine = one_piece s k ps (line_of_piece p) (lines_alike (k + 1) ps) wider fit fine

  -- ---- the header
  narrow_stays : (narrow : WordName) (fs : List ℕ) → width narrow ≤ width wide → has_wide narrow fs ≡ false → has_wide wide fs ≡ false
  narrow_stays narrow [] more e = refl
  narrow_stays narrow (f ∷ fs) more e =
      let rest : has_wide narrow fs ≡ false = grind (arith, nat_tests) in
      let first : nat_lt (width wide) f ≡ false = grind (arith, nat_tests) in
      rw (first, narrow_stays narrow fs more rest) refl

pub script_pieces : (h : ScriptHeader) (lines : List ℕ) → pieces (script_of h lines) ≡ ended (header_text h) ∷ pieces lines
script_pieces h lines = pieces_ended (header_text h) lines (joined_lack (header_tokens h) (both_true (word_lacks h.word) (naturals_lack 10 (fractions_of h) refl)))

lines_run : (h : ScriptHeader) (lines : List ℕ) → has_wide h.word (fractions_of h) ≡ false → script_run (script_of h lines) ≡ run_lines (start h) 2 (pieces lines)
lines_run h lines narrow = run_of_lines (script_of h lines) (ended (header_text h)) (pieces lines) (script_pieces h lines) h (header_read h) narrow

no_wide : (h : ScriptHeader) (lines : List ℕ) → (script_run (script_of h lines)).cause ≡ None → has_wide h.word (fractions_of h) ≡ false
no_wide h lines fine = by_width (has_wide h.word (fractions_of h)) refl
  where
    by_width : (b : Bool) → has_wide h.word (fractions_of h) ≡ b → b ≡ false
    by_width false e = refl
    by_width true e =
        let faulty = ap (λ (r : Run State Cause). r.cause) (run_of_wide (script_of h lines) (ended (header_text h)) (pieces lines) (script_pieces h lines) h (header_read h) e) in
        cc

pub same_output : (h : ScriptHeader) (wide : WordName) (lines bytes : List ℕ) → IsWider h.word wide → rows_fit (start h) (pieces lines) ≡ true → meaning (script_of h lines) ≡ Output bytes → meaning (script_of (with_word wide h) lines) ≡ Output bytes
same_output h wide lines bytes wider fit e =
    let run = script_run (script_of h lines) in
    let is = output_of run.output bytes run.cause e in
    let narrow = no_wide h lines is.0 in
    let more : width h.word ≤ width wide = let m = wider.more_bits in omega arith in
    let first = lines_run h lines narrow in
    let second = lines_run (with_word wide h) lines (narrow_stays wide h.word (fractions_of h) more narrow) in
    let alike = lines_alike wide 2 (pieces lines) (start h) wider fit (sym (ap (λ (r : Run State Cause). r.cause) first) ∙ is.0) in
    let output = ap (λ (r : Run State Cause). r.output) second ∙ alike.1 ∙ sym (ap (λ (r : Run State Cause). r.output) first) ∙ is.1 in
    let fault = ap (λ (r : Run State Cause). r.cause) second ∙ alike.0 in
    λ i. option_map_or Fault (fault i) (Output (output i))
