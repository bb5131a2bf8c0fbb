use Rattle.fixed_root.proofs.RootLaws.{root_of_is, root_unique}
use Rattle.fixed_root.proofs.laws.root_law.Goals as goal

pub returns : goal.returns
returns c = record { is_root = root_of_is; unique = root_unique }
