use Rattle.fixed_elementary.proofs.Above.{never_below, unless_below}
use Rattle.fixed_natural.proofs.numbers.is_above_zero.Goals as goal

pub returns-then-not-is_below_zero : goal.returns-then-not-is_below_zero
returns-then-not-is_below_zero g c = unless_below (g.T.Valued.value c.args.word) c.is_below_zero.result c.magnitude.result c.if-not-is_below_zero.true c.is_below_zero.ensures.sign.1 c.magnitude.ensures.magnitude

pub returns-else-not-is_below_zero : goal.returns-else-not-is_below_zero
returns-else-not-is_below_zero g c = never_below (g.T.Valued.value c.args.word) c.is_below_zero.result c.if-not-is_below_zero.false (c.is_below_zero.ensures.sign.0 c.if-not-is_below_zero.false)
