use Rattle.fixed_turns.proofs.Sums.{radians_of_under}
use Rattle.fixed_turns.proofs.series.radians_of.Goals as goal

pub returns-clause-value : goal.returns-clause-value
returns-clause-value c = λ f p k u low high x is. radians_of_under f p k x c.args.rest c.scaled.result u low high is c.requires c.scaled.ensures
