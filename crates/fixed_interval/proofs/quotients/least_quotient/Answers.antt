use Rattle.std.proofs.Common.{◌∙◌}
use Rattle.fixed_interval.proofs.QuotientCorners.{least_picked}
use Rattle.fixed_interval.proofs.quotients.least_quotient.Goals as goal

pub returns : goal.returns
returns g c =
    c.corner.ensures
    ∙ least_picked g.T.Valued.value c.args.a.now c.args.b.now c.args.frac c.is_below_zero.result c.is_below_zero-2.result _ _ c.hi.ensures.order c.lo.ensures.order c.requires.divisor
    (rw c.lo.ensures.value at c.is_below_zero.ensures.sign)
    (rw (c.hi.ensures.value, c.lo-2.ensures.value) at c.either-x.ensures)
    c.is_below_zero-2.ensures.sign
    (rw (c.lo-3.ensures.value, c.hi-2.ensures.value) at c.either-y.ensures)
