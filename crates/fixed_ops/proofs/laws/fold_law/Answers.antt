use Rattle.fixed_ops.proofs.FirstParts.{first_parts}
use Rattle.fixed_ops.proofs.laws.fold_law.Goals as goal

pub returns : goal.returns
returns c = first_parts
