use Rattle.fixed_kernel.proofs.RowLaws.{from_zero, off_zero}
use Rattle.fixed_kernel.proofs.laws.row_law.Goals as goal

pub returns : goal.returns
returns c = record { divisor = off_zero; sign = from_zero }
