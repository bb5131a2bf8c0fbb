use Rattle.std.proofs.Common.{◌≤◌, None, sym, subst, arith}
use Rattle.fixed_word.specs.Pieces.{pieces}
use Rattle.fixed_text.specs.Answers.{IsAnswerOfRun}
use Rattle.fixed_text.specs.Runs.{run_then, lines_from, meaning_of}
use Rattle.fixed_text.specs.Readings.{Reading, first_at, line_by}
use Rattle.fixed_interval.specs.Runs.{IntervalState, interval_line}
use Rattle.fixed_interval.proofs.Starts.{started_in}
use Rattle.fixed_interval.proofs.interval_script.IntervalHeaderInWord.run_in.Goals as goal

pub returns : goal.returns
returns g c =
    let i = c.if-self-from.false in
    let j = c.from.ensures in
    let k = c.BITS.ensures in
    let l = c.if-self-lt1.false in
    let m = c.if-self-gt-MOST_REGISTERS.false in
    let within : c.args.self.frac ≤ g.T.Valued.BITS = omega arith in
    subst (λ (r : Reading IntervalState). IsAnswerOfRun (meaning_of (run_then None (first_at r) (λ state. lines_from (line_by interval_line) state 2 (pieces c.args.lines.now)))) c.run_lines.result) (sym (started_in g.T.RawWord.SIGNED g.T.Valued.BITS c.args.self.frac c.args.self.count within (omega arith) (omega arith)))
    (rw c.in-Ok.ensures at c.run_lines.ensures)
