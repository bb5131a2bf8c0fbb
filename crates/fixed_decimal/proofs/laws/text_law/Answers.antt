use Rattle.fixed_decimal.proofs.Readings.{exact_law, nearest_law, read_law, shortest_law}
use Rattle.fixed_decimal.proofs.Firsts.{enough_law, found_law}
use Rattle.fixed_decimal.proofs.laws.text_law.Goals as goal

pub returns-clause-exact : goal.returns-clause-exact
returns-clause-exact c = exact_law

pub returns-clause-shortest : goal.returns-clause-shortest
returns-clause-shortest c a f p least = shortest_law a f p least.holds

pub returns-clause-fewest : goal.returns-clause-fewest
returns-clause-fewest c a f p text least e = least.least _ (read_law a f text e)

pub returns-clause-nearest : goal.returns-clause-nearest
returns-clause-nearest c = nearest_law

pub returns-clause-enough : goal.returns-clause-enough
returns-clause-enough c = enough_law

pub returns-clause-found : goal.returns-clause-found
returns-clause-found c = found_law
