use Rattle.fixed_calc.proofs.Spellings.{keeps_meaning}
use Rattle.fixed_calc.proofs.laws.spelling_law.Goals as goal

pub returns : goal.returns
returns c = keeps_meaning
