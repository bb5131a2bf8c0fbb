use Rattle.std.proofs.Common.{sym}
use Rattle.fixed_script.proofs.TextsRead.{line_tells, no_front}
use Rattle.fixed_script.proofs.piece.line_of_piece.Goals as goal

pub returns-in-Some : goal.returns-in-Some
returns-in-Some c = line_tells c.args.piece.now c.in-Some.body.now c.parse_line.result (sym c.in-Some.ensures) c.parse_line.ensures.none c.parse_line.ensures.found

pub returns-in-None : goal.returns-in-None
returns-in-None c = no_front c.args.piece.now (sym c.in-None.ensures)
