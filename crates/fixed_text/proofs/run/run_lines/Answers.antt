use Rattle.std.proofs.Common.{◌+◌, ◌++◌, ℕ, List, take, drop, sym, ap, subst, ◌∙◌, arith, length-drop}
use Rattle.std.proofs.lemmas.List.{drop_all, drop-drop}
use Rattle.fixed_text.specs.Runs.{Meaning, meaning_of}
use Rattle.fixed_text.specs.Readings.{PieceCause, line_by}
use Rattle.fixed_text.specs.Answers.{EndsBy}
use Rattle.fixed_text.proofs.Turns.{from_here, turn, fault_turn, nothing_left, whole_rest}
use Rattle.fixed_text.proofs.run.run_lines.Goals as goal

pub returns-in-Err : goal.returns-in-Err
returns-in-Err g c =
    let lines = c.args.lines.now in
    let rest = drop c.loop-at.at lines in
    let end = c.piece_end-end.result in
    let whole = whole_rest c.loop-at.at lines in
    let ends = fault_turn g.R.Run.line c.loop-at.output c.loop-at.run c.loop-at.number rest (take end rest) (drop end rest) c.in-Err.fault (rw whole at c.piece_end-end.ensures.cut) (rw whole at c.in-Err.ensures) in
    subst (λ (m : Meaning PieceCause). EndsBy m c.in-Err.fault) (ap meaning_of c.loop-at.invariant.run) ends

pub loop-at-preserved : goal.loop-at-preserved
loop-at-preserved g c =
    let line = line_by g.R.Run.line in
    let lines = c.args.lines.now in
    let at = c.loop-at.at in
    let rest = drop at lines in
    let end = c.piece_end-end.result in
    let whole = whole_rest at lines in
    let within = rw whole at c.piece_end-end.ensures.within in
    let told = rw whole at c.in-Ok.ensures in
    let next = c.line_piece.new.run in
    let number = c.loop-at.number + 1 in
    record {
      within = omega (arith, length-drop at lines);
      run =
          ap (λ (printed : List ℕ). from_here line printed next number (drop (at + end) lines)) told.2
          ∙ ap (from_here line (c.loop-at.output ++ told.0) next number) (sym (drop-drop end at lines))
          ∙ sym (turn line c.loop-at.output told.0 c.loop-at.run next c.loop-at.number rest (take end rest) (drop end rest) (rw whole at c.piece_end-end.ensures.cut) told.1)
          ∙ c.loop-at.invariant.run;
      count = omega arith;
    }

pub returns : goal.returns
returns g c =
    let line = line_by g.R.Run.line in
    let over = drop_all c.loop-at.at c.args.lines.now (omega (arith, c.loop-at-test.false)) in
    ap meaning_of (sym c.loop-at.invariant.run ∙ ap (from_here line c.loop-at.output c.loop-at.run c.loop-at.number) over ∙ nothing_left line c.loop-at.output c.loop-at.run c.loop-at.number)
