use Rattle.std.proofs.Common.{rules}
use Rattle.fixed_turns.proofs.Quarters.{ahead, behind}
use Rattle.fixed_turns.proofs.angles.parted.Goals as goal

pub returns-then-past : goal.returns-then-past
returns-then-past c = behind c.args.part (search rules) (search rules)

pub returns-else-past : goal.returns-else-past
returns-else-past c = ahead c.args.part (search rules) (search rules)
