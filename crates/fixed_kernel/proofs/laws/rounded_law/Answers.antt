use Rattle.fixed_kernel.proofs.RoundedLaws.{rounded_is, rounded_unique}
use Rattle.fixed_kernel.proofs.laws.rounded_law.Goals as goal

pub returns-clause-is : goal.returns-clause-is
returns-clause-is c = rounded_is

pub returns-clause-unique : goal.returns-clause-unique
returns-clause-unique c = rounded_unique
