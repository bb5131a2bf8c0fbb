-- A script with an output begins with the text of a header.
use Rattle.std.specs.Option.{option_and_then}
use Rattle.std.proofs.Common.{◌≡◌, ◌+◌, ◌-◌, ◌<◌, ◌==◌, ℕ, Bool, true, false, List, [], ◌∷◌, ◌++◌, length, take, get_or, Option, Some, None, if◌then◌else◌, refl, sym, ap, ◌∙◌, arith, append_assoc}
use Rattle.std.specs.Prelude.{slice_index}
use Rattle.std.specs.List.{concat}
use Rattle.std.proofs.lemmas.Bool.{eqb-true}
use Rattle.std.proofs.lemmas.List.{take_more, take_all}
use Rattle.fixed_word.specs.Pieces.{pieces, body}
use Rattle.fixed_script.specs.Text.{ScriptHeader, header_text}
use Rattle.fixed_script.specs.Lines.{header_of, header_of_piece}
use Rattle.fixed_text.specs.Runs.{Output, run_then}
use Rattle.fixed_machine.specs.Meaning.{started, script_run, meaning}
use Rattle.fixed_machine.specs.inside.Lines.{run_lines}
use Rattle.fixed_machine.proofs.Runs.{run_pieces}
use Rattle.fixed_calc.specs.Widening.{script_of}
use Rattle.fixed_text.proofs.Cutting.{pieces_joined}
use Rattle.fixed_script.proofs.TextsRead.{reads_headers}
use Rattle.fixed_calc.proofs.Twice.{output_of}

-- a piece is its body and a newline
pub body_by : (p t : List ℕ) (b : Bool) → slice_index p (length p - 1) == 10 ≡ b → (if b then Some (take (length p - 1) p) else None) ≡ Some t → p ≡ t ++ (10 ∷ [])
body_by [] t true is e = cc
body_by (x ∷ xs) t true is e =
    let p = x ∷ xs in
    let last : length p - 1 < length p = omega arith in
    let front : take (length p - 1) p ≡ t = cc in
    sym (take_all (length p - 1 + 1) p (omega arith))
    ∙ take_more p (length p - 1) 0 last
    ∙ ap (λ (c : ℕ). take (length p - 1) p ++ (c ∷ [])) (eqb-true (get_or p (length p - 1) 0) 10 is)
    ∙ ap (λ (f : List ℕ). f ++ (10 ∷ [])) front
body_by p t false is e = cc

header_by : (p : List ℕ) (h : ScriptHeader) (o : Option (List ℕ)) → body p ≡ o → option_and_then header_of o ≡ Some h → p ≡ header_text h ++ (10 ∷ [])
header_by p h None is e = cc
header_by p h (Some t) is e =
    body_by p t (slice_index p (length p - 1) == 10) refl is ∙ ap (λ (f : List ℕ). f ++ (10 ∷ [])) (sym ((reads_headers t h).0 e))

pub header_piece : (p : List ℕ) (h : ScriptHeader) → header_of_piece p ≡ Some h → p ≡ header_text h ++ (10 ∷ [])
unfolding header_of_piece
header_piece p h e = header_by p h (body p) refl e

abbrev IsHeaded : List ℕ → Type 0
IsHeaded script = (header : ScriptHeader) × ((lines : List ℕ) × (script ≡ script_of header lines))

headed_by : (script p : List ℕ) (ps : List (List ℕ)) (o : Option ScriptHeader) → header_of_piece p ≡ o → pieces script ≡ p ∷ ps → (run_then None (started o) (λ s. run_lines s 2 ps)).cause ≡ None → IsHeaded script
headed_by script p ps None is cut fine = cc
headed_by script p ps (Some h) is cut fine = (
  h,
  (
    concat ps,
    sym (pieces_joined script) ∙ ap concat cut ∙ ap (λ (q : List ℕ). q ++ concat ps) (header_piece p h is) ∙ append_assoc (header_text h) (10 ∷ []) (concat ps),
  ),
)

pieces_headed : (script : List ℕ) (ps : List (List ℕ)) → pieces script ≡ ps → (run_pieces ps).cause ≡ None → IsHeaded script
unfolding header_of_piece
pieces_headed script [] cut fine = cc
pieces_headed script (p ∷ ps) cut fine = headed_by script p ps (header_of_piece p) refl cut fine

run_headed : (script : List ℕ) → (script_run script).cause ≡ None → IsHeaded script
unfolding script_run
run_headed script fine = pieces_headed script (pieces script) refl fine

pub headed : (script bytes : List ℕ) → meaning script ≡ Output bytes → IsHeaded script
headed script bytes e = run_headed script (output_of (script_run script).output bytes (script_run script).cause e).0
