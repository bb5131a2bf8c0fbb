use Rattle.fixed_turns.proofs.Factorials.{reciprocal_in}
use Rattle.fixed_turns.proofs.series.reciprocal.Goals as goal

pub returns : goal.returns
returns c = reciprocal_in c.args.n c.requires
