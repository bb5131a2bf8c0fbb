use Rattle.std.proofs.Common.{◌<◌, rules}
use Rattle.fixed_elementary.proofs.Reading.{below_zero}
use Rattle.fixed_elementary.proofs.logarithms.outcome_of_difference.Goals as goal

pub returns-then-units-less : goal.returns-then-units-less
returns-then-units-less g c =
    let small : c.args.units < c.args.less = search rules in
    rw (below_zero c.args.units c.args.less small) c.outcome_of_magnitude.ensures
