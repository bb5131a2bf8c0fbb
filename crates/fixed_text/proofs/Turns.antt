-- One piece of a run.
use Rattle.std.proofs.Common.{Result, Ok, Err, Option, Some, None, ◌≡◌, ◌+◌, ◌-◌, ℕ, suc, List, [], ◌∷◌, ◌++◌, take, drop, length, arith, refl, sym, ap, ◌∙◌, append_assoc}
use Rattle.std.specs.List.{All}
use Rattle.std.specs.Option.{option_map}
use Rattle.std.proofs.lemmas.List.{append-nil}
use Rattle.std.proofs.lemmas.Grind.{common_steps}
use Rattle.fixed_word.specs.Pieces.{pieces, body}
use Rattle.fixed_text.specs.declared.fault.RunFault.{RunFault}
use Rattle.fixed_text.specs.declared.fault.RunFault.TheVariants.{Syntax, OutOfRange, Memory}
use Rattle.fixed_text.specs.Runs.{Run, run_then, lines_from, meaning_of}
use Rattle.fixed_text.specs.inside.Ends.{after}
use Rattle.fixed_text.specs.Readings.{Reading, Malformed, Misfit, Read, read_map, PieceCause, at_piece, piece_by, line_by}
use Rattle.fixed_text.specs.declared.fault.LineFault.{LineFault}
use Rattle.fixed_text.specs.declared.fault.LineFault.TheVariants.{Unformed, Unfit, Wanting}
use Rattle.fixed_text.specs.Answers.{EndsBy, IsStepOfLine, IsLineFault}
use Rattle.fixed_text.specs.inside.Pieces.{IsFaultOfPiece}

-- what is left of a script
pub whole_rest : (at : ℕ) (xs : List ℕ) → take (length xs - at) (drop at xs) ≡ drop at xs
whole_rest at xs = grind (arith, common_steps)

module _ {S C : Type 0} where
  after-after : (xs ys : List ℕ) (run : Run S C) → after xs (after ys run) ≡ after (xs ++ ys) run
  after-after xs ys run = λ i. record { state = run.state; output = sym (append_assoc xs ys run.output) i; cause = run.cause }

  module _ (line : S → ℕ → List ℕ → Result (S × List ℕ) C) where
    pub line_step : (s : S) (k : ℕ) (p : List ℕ) (ps : List (List ℕ)) → lines_from line s k (p ∷ ps) ≡ run_then (Some s) (line s k p) (λ t. lines_from line t (k + 1) ps)
    unfolding lines_from
    line_step s k p ps = refl

    pub line_moves : (s t : S) (k : ℕ) (p bytes : List ℕ) (ps : List (List ℕ)) → line s k p ≡ Ok (t, bytes) → lines_from line s k (p ∷ ps) ≡ after bytes (lines_from line t (k + 1) ps)
    line_moves s t k p bytes ps e = line_step s k p ps ∙ ap (λ (r : Result (S × List ℕ) C). run_then (Some s) r (λ t. lines_from line t (k + 1) ps)) e

    -- the lines from here, after what is printed
    abbrev pub from_here : List ℕ → S → ℕ → List ℕ → Run S C
    from_here printed s k rest = after printed (lines_from line s k (pieces rest))

    pub nothing_left : (printed : List ℕ) (s : S) (k : ℕ) → from_here printed s k [] ≡ record { state = Some s; output = printed; cause = None }
    unfolding lines_from
    nothing_left printed s k = λ i. record { state = Some s; output = append-nil printed i; cause = None }

    pub turn : (printed bytes : List ℕ) (s t : S) (k : ℕ) (rest p left : List ℕ) → pieces rest ≡ p ∷ pieces left → line s k p ≡ Ok (t, bytes) → from_here printed s k rest ≡ from_here (printed ++ bytes) t (k + 1) left
    turn printed bytes s t k rest p left cut moved =
        ap (λ ps. after printed (lines_from line s k ps)) cut
        ∙ ap (after printed) (line_moves s t k p bytes (pieces left) moved)
        ∙ after-after printed bytes (lines_from line t (k + 1) (pieces left))

    -- a piece with a cause ends the run
    pub cause_turn : (printed : List ℕ) (s : S) (k : ℕ) (rest p : List ℕ) (ps : List (List ℕ)) (c : C) → pieces rest ≡ p ∷ ps → line s k p ≡ Err c → from_here printed s k rest ≡ record { state = Some s; output = printed; cause = Some c }
    cause_turn printed s k rest p ps c cut caused =
        ap (λ ps. after printed (lines_from line s k ps)) cut
        ∙ ap (after printed) (line_step s k p ps ∙ ap (λ (r : Result (S × List ℕ) C). run_then (Some s) r (λ t. lines_from line t (k + 1) ps)) caused)
        ∙ (λ i. record { state = Some s; output = append-nil printed i; cause = Some c })

  -- lines that say the same of such pieces
  pub lines_alike : (line other : S → ℕ → List ℕ → Result (S × List ℕ) C) (Fine : List ℕ → Type 0) → ((s : S) (k : ℕ) (p : List ℕ) → Fine p → line s k p ≡ other s k p)
      → (s : S) (k : ℕ) (ps : List (List ℕ)) → All Fine ps → lines_from line s k ps ≡ lines_from other s k ps
  unfolding lines_from
  lines_alike line other Fine same s k [] fine = refl
  lines_alike line other Fine same s k (p ∷ ps) fine =
      λ i. run_then (Some s) (same s k p (fine 0 [] (omega arith)) i) (λ t. lines_alike line other Fine same t (k + 1) ps (λ n d lt. fine (suc n) d (omega arith)) i)

-- ---- a run by readings
-- the fault of a piece is the run's
pub fault_turn : {S : Type 0} (line : S → List ℕ → Reading (S × List ℕ)) (printed : List ℕ) (s : S) (k : ℕ) (rest p left : List ℕ) (fault : RunFault) → pieces rest ≡ p ∷ pieces left → IsFaultOfPiece (line_by line s k p) fault
    → EndsBy (meaning_of (from_here (line_by line) printed s k rest)) fault
fault_turn line printed s k rest p left (Syntax j) cut h = ap meaning_of (cause_turn (line_by line) printed s k rest p (pieces left) _ cut h)
fault_turn line printed s k rest p left (OutOfRange j) cut h = ap meaning_of (cause_turn (line_by line) printed s k rest p (pieces left) _ cut h)
fault_turn line printed s k rest p left Memory cut h = tt

-- a line that prints nothing leaves every output as it was
pub quiet : {S : Type 0} (reading : Reading (S × List ℕ)) (result : Result (Unit {0}) LineFault) (state : S) (before : List ℕ) → IsStepOfLine reading result state [] [] → IsStepOfLine reading result state before before
quiet reading (Ok _) state before h = ([], h.1 ∙ ap (λ (bytes : List ℕ). Read (state, bytes)) (sym h.2), sym (append-nil before))
quiet reading (Err refusal) state before h = h

pub refused_map : {A B : Type 0} (make : A → B) (reading : Reading A) (refusal : LineFault) → IsLineFault reading refusal → IsLineFault (read_map make reading) refusal
refused_map make reading Unformed h = ap (read_map make) h
refused_map make reading Unfit h = ap (read_map make) h
refused_map make reading Wanting h = tt

-- ---- a run that is kept in another form
abbrev pub run_map : {S K C : Type 0} → (S → K) → Run S C → Run K C
run_map keep run = record { state = option_map keep run.state; output = run.output; cause = run.cause }

-- Fine is what holds of each state that comes up, with so many pieces left
module _ {S K : Type 0} (line : S → List ℕ → Reading (S × List ℕ)) (kept : K → List ℕ → Reading (K × List ℕ)) (keep : S → K) (Fine : S → ℕ → Type 0) where
  abbrev pub keep_moved : S × List ℕ → K × List ℕ
  keep_moved moved = (keep moved.0, moved.1)

  turn_alike : (s : S) (k : ℕ) (p : List ℕ) (ps : List (List ℕ)) → ((b : List ℕ) → kept (keep s) b ≡ read_map keep_moved (line s b)) → ((b : List ℕ) (moved : S × List ℕ) → line s b ≡ Read moved → Fine moved.0 (length ps))
      → ((t : S) → Fine t (length ps) → lines_from (line_by kept) (keep t) (k + 1) ps ≡ run_map keep (lines_from (line_by line) t (k + 1) ps)) → lines_from (line_by kept) (keep s) k (p ∷ ps) ≡ run_map keep (lines_from (line_by line) s k (p ∷ ps))
  unfolding lines_from
  turn_alike s k p ps same stays later = by_body (body p)
    where
      kept_then : Reading (K × List ℕ) → Run K PieceCause
      kept_then r = run_then (Some (keep s)) (at_piece k r) (λ t. lines_from (line_by kept) t (k + 1) ps)

      line_then : Reading (S × List ℕ) → Run S PieceCause
      line_then r = run_then (Some s) (at_piece k r) (λ t. lines_from (line_by line) t (k + 1) ps)

      by_reading : (r : Reading (S × List ℕ)) → ((moved : S × List ℕ) → r ≡ Read moved → Fine moved.0 (length ps)) → kept_then (read_map keep_moved r) ≡ run_map keep (line_then r)
      by_reading Malformed fine = refl
      by_reading Misfit fine = refl
      by_reading (Read moved) fine = ap (after moved.1) (later moved.0 (fine moved refl))

      by_body : (o : Option (List ℕ)) → kept_then (piece_by (kept (keep s)) o) ≡ run_map keep (line_then (piece_by (line s) o))
      by_body None = refl
      by_body (Some b) = ap kept_then (same b) ∙ by_reading (line s b) (stays b)

  pub simulated : ((s : S) (b : List ℕ) (left : ℕ) → Fine s (suc left) → kept (keep s) b ≡ read_map keep_moved (line s b)) → ((s : S) (b : List ℕ) (moved : S × List ℕ) (left : ℕ) → Fine s (suc left) → line s b ≡ Read moved → Fine moved.0 left)
      → (s : S) (k : ℕ) (ps : List (List ℕ)) → Fine s (length ps) → lines_from (line_by kept) (keep s) k ps ≡ run_map keep (lines_from (line_by line) s k ps)
  unfolding lines_from
  simulated same stays s k [] fine = refl
  simulated same stays s k (p ∷ ps) fine = turn_alike s k p ps (λ b. same s b (length ps) fine) (λ b moved. stays s b moved (length ps) fine) (λ t f. simulated same stays t (k + 1) ps f)
