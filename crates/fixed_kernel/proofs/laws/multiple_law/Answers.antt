use Rattle.fixed_kernel.proofs.RowLaws.{next_multiple_is, next_multiple_unique}
use Rattle.fixed_kernel.proofs.laws.multiple_law.Goals as goal

pub returns : goal.returns
returns c = record { is = next_multiple_is; unique = next_multiple_unique }
