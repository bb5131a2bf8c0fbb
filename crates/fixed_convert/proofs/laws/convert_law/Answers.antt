use Rattle.fixed_convert.proofs.Wholes.{back}
use Rattle.fixed_convert.proofs.Rounds.{rounded_up}
use Rattle.fixed_convert.proofs.laws.convert_law.Goals as goal

pub returns-clause-exact : goal.returns-clause-exact
returns-clause-exact c = rounded_up

pub returns-clause-back : goal.returns-clause-back
returns-clause-back c = back
