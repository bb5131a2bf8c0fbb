use Rattle.fixed_kernel.proofs.RowLawsPowers.{next_power_is}
use Rattle.fixed_kernel.proofs.laws.power_law.Goals as goal

pub returns : goal.returns
returns c = next_power_is
