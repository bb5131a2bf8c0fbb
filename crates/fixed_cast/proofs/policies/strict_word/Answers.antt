use Rattle.fixed_word.proofs.Standings.{value_where_fits}
use Rattle.fixed_cast.proofs.policies.strict_word.Goals as goal

pub returns : goal.returns
returns g c = λ x h. value_where_fits g.T.Valued.value g.T.RawWord.SIGNED g.T.Valued.BITS x c.args.outcome g.met.T.RawWord.width_law h c.requires
