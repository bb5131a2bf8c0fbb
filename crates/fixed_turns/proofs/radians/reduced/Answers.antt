use Rattle.std.proofs.lemmas.Bool.{iff_false}
use Rattle.fixed_turns.proofs.Splits.{is_below, not_below}
use Rattle.fixed_turns.proofs.radians.reduced.Goals as goal

pub returns-then-is_below_zero-clause-value : goal.returns-then-is_below_zero-clause-value
returns-then-is_below_zero-clause-value g c = λ p i.
    let s = c.split-angle.result in
    is_below p c.magnitude.result c.args.frac s.quarter c.wrapping_neg.result s.rest (g.T.Valued.value c.args.a) s.below
    (c.is_below_zero.ensures.sign.0 c.if-is_below_zero.true) c.magnitude.ensures.magnitude c.wrapping_neg.ensures (c.split-angle.ensures.value p i)

pub returns-else-is_below_zero-clause-value : goal.returns-else-is_below_zero-clause-value
returns-else-is_below_zero-clause-value g c = λ p i.
    let s = c.split-angle.result in
    not_below p c.magnitude.result c.args.frac s.quarter s.rest (g.T.Valued.value c.args.a) s.below
    (iff_false c.is_below_zero.ensures.sign c.if-is_below_zero.false) c.magnitude.ensures.magnitude (c.split-angle.ensures.value p i)
