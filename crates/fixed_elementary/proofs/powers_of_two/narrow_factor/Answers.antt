use Rattle.std.proofs.Common.{◌≤◌, ◌<◌, rules}
use Rattle.fixed_elementary.proofs.Eights.{first_is, last_is}
use Rattle.fixed_elementary.proofs.powers_of_two.narrow_factor.Goals as goal

pub returns-then-group-lt2 : goal.returns-then-group-lt2
returns-then-group-lt2 c =
    let first : c.args.group < 2 = search rules in
    first_is c.args.group c.args.digits first c.requires.digits

pub returns-else-group-lt2 : goal.returns-else-group-lt2
returns-else-group-lt2 c =
    let last : 2 ≤ c.args.group = search rules in
    last_is c.args.group c.args.digits last c.requires.group c.requires.digits
