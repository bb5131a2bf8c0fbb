use Rattle.std.proofs.Common.{◌+◌, ◌<◌, ◌^◌, length, ap, subst, arith}
use Rattle.fixed_word.specs.Pieces.{pieces}
use Rattle.fixed_text.specs.Readings.{PieceCause}
use Rattle.fixed_text.specs.Runs.{Meaning, meaning_of}
use Rattle.fixed_text.proofs.Turns.{simulated}
use Rattle.fixed_text.specs.Answers.{IsAnswerOfRun}
use Rattle.fixed_filter.specs.Runs.{filter_line, start}
use Rattle.fixed_filter.specs.inside.Kept.{kept_line}
use Rattle.fixed_filter.proofs.Counted.{length_pieces}
use Rattle.fixed_filter.proofs.Simulated.{Fine, keep, same, stays}
use Rattle.fixed_filter.proofs.filter_script.run_shape.Goals as goal

pub returns : goal.returns
returns g c =
    let lines = c.args.lines.now in
    let few = length_pieces lines in
    let room : 0 + length (pieces lines) < 2 ^ 64 = omega arith in
    let alike = simulated filter_line kept_line keep Fine same stays (start g.T.RawWord.SIGNED g.T.Valued.BITS c.args.shape) 2 (pieces lines) (tt, room) in
    let told = rw (c.new.ensures, c.new-2.ensures.items) at c.run_lines.ensures in
    subst (λ (m : Meaning PieceCause). IsAnswerOfRun m c.run_lines.result) (ap meaning_of alike) told
