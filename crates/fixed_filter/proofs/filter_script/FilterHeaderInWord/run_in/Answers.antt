use Rattle.std.proofs.Common.{◌≤◌, None, sym, subst, arith}
use Rattle.fixed_word.specs.Pieces.{pieces}
use Rattle.fixed_text.specs.Answers.{IsAnswerOfRun}
use Rattle.fixed_text.specs.Runs.{run_then, lines_from, meaning_of}
use Rattle.fixed_text.specs.Readings.{Reading, first_at, line_by}
use Rattle.fixed_filter.specs.declared.shape.Shape.{Shape}
use Rattle.fixed_filter.specs.Runs.{FilterState, filter_line}
use Rattle.fixed_filter.proofs.Lines.{started_in}
use Rattle.fixed_filter.proofs.filter_script.FilterHeaderInWord.run_in.Goals as goal

pub returns : goal.returns
returns g c =
    let h = c.args.self in
    let shape : Shape = record { out_frac = h.out; coef_frac = h.coef; sample_frac = h.sample } in
    let i = c.BITS.ensures in
    let j = c.from-most.ensures in
    let a = c.if-self-most.false in
    let b = c.if-self-most-2.false in
    let d = c.if-self-most-3.false in
    let out : h.out ≤ g.T.Valued.BITS = omega arith in
    let coef : h.coef ≤ g.T.Valued.BITS = omega arith in
    let sample : h.sample ≤ g.T.Valued.BITS = omega arith in
    subst (λ (r : Reading FilterState). IsAnswerOfRun (meaning_of (run_then None (first_at r) (λ state. lines_from (line_by filter_line) state 2 (pieces c.args.lines.now)))) c.run_shape.result) (sym (started_in g.T.RawWord.SIGNED g.T.Valued.BITS shape out coef sample))
    c.run_shape.ensures
