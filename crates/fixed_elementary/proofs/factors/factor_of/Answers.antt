use Rattle.fixed_elementary.proofs.Tables.{row_log, row_near}
use Rattle.fixed_elementary.proofs.factors.factor_of.Goals as goal

pub returns-clause-near : goal.returns-clause-near
returns-clause-near c = row_near c.args.group c.args.digit c.requires.group c.requires.digit

pub returns-clause-log : goal.returns-clause-log
returns-clause-log c = row_log c.args.group c.args.digit c.requires.group c.requires.digit
