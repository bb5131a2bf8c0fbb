use Rattle.fixed_table.proofs.Points.{at_point}
use Rattle.fixed_table.proofs.laws.points_law.Goals as goal

pub returns : goal.returns
returns c = λ k i values v e. at_point k i values v e
