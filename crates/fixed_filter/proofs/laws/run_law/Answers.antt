use Rattle.fixed_filter.proofs.SectionRuns.{error_bound}
use Rattle.fixed_filter.proofs.laws.run_law.Goals as goal

pub returns : goal.returns
returns c = λ signed n g c start last samples run small. error_bound signed n g c small start last samples run
