use Rattle.std.proofs.Common.{sym}
use Rattle.fixed_script.proofs.TextsRead.{header_tells, no_front_header}
use Rattle.fixed_script.proofs.piece.header_of_piece.Goals as goal

pub returns-in-Some : goal.returns-in-Some
returns-in-Some c = header_tells c.args.piece.now c.in-Some.body.now c.parse_header.result (sym c.in-Some.ensures) c.parse_header.ensures.none c.parse_header.ensures.found

pub returns-in-None : goal.returns-in-None
returns-in-None c = no_front_header c.args.piece.now (sym c.in-None.ensures)
