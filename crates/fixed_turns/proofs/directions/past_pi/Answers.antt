use Rattle.fixed_turns.proofs.Bisected.{near, past}
use Rattle.fixed_turns.proofs.directions.past_pi.Goals as goal

pub returns-clause-past : goal.returns-clause-past
returns-clause-past c = past c.args.frac c.requires

pub returns-clause-near : goal.returns-clause-near
returns-clause-near c = near c.args.frac c.requires
