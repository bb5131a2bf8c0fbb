use Rattle.fixed_elementary.proofs.Groups.{broad_is}
use Rattle.fixed_elementary.proofs.powers_of_two.broad_factor.Goals as goal

pub returns : goal.returns
returns c = broad_is c.args.group c.args.digits c.requires.group c.requires.digits
