use Rattle.fixed_calc.proofs.Twice.{output_twice}
use Rattle.fixed_calc.proofs.laws.output_law.Goals as goal

pub returns : goal.returns
returns c = output_twice
