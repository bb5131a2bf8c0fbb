use Rattle.fixed_calc.proofs.PolicyLaws.{where_it_fits, where_it_misses}
use Rattle.fixed_calc.proofs.laws.policy_law.Goals as goal

pub returns-clause-fits : goal.returns-clause-fits
returns-clause-fits c = where_it_fits

pub returns-clause-misses : goal.returns-clause-misses
returns-clause-misses c = where_it_misses
