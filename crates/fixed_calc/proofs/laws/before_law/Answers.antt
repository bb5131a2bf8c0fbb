use Rattle.fixed_calc.proofs.Before.{means_as_before, reads_old_lines}
use Rattle.fixed_calc.proofs.laws.before_law.Goals as goal

pub returns : goal.returns
returns c = record { meaning = means_as_before; lines = reads_old_lines }
