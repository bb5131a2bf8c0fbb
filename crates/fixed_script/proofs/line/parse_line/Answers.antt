use Rattle.std.proofs.Common.{◌∙◌, ap}
use Rattle.fixed_script.specs.inside.Parser.{line_at}
use Rattle.fixed_script.proofs.Lines.{read_none, read_some}
use Rattle.fixed_script.proofs.line.parse_line.Goals as goal

pub returns-clause-none : goal.returns-clause-none
returns-clause-none c = read_none c.args.piece.now c.line_from.result (c.line_from.ensures ∙ ap line_at c.new.ensures)

pub returns-clause-found : goal.returns-clause-found
returns-clause-found c = read_some c.args.piece.now c.line_from.result (c.line_from.ensures ∙ ap line_at c.new.ensures)
