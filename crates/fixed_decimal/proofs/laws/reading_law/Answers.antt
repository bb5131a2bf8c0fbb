use Rattle.fixed_decimal.proofs.Exactness.{exact_read_law, rounded_law}
use Rattle.fixed_decimal.proofs.laws.reading_law.Goals as goal

pub returns-clause-rounded : goal.returns-clause-rounded
returns-clause-rounded c = rounded_law

pub returns-clause-exact : goal.returns-clause-exact
returns-clause-exact c = exact_read_law
