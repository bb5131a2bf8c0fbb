use Rattle.std.proofs.Common.{ap, pos, ◌∙◌, arith}
use Rattle.fixed_block.proofs.Sums.{unsigned_next, unsigned_past}
use Rattle.fixed_block.proofs.dots.unsigned_sum.Goals as goal

pub returns-in-None-clause-none : goal.returns-in-None-clause-none
returns-in-None-clause-none g c = λ e fit.
    let value = g.T.Valued.value in
    let next = unsigned_next value g.T.RawWord.SIGNED g.T.Valued.BITS c.args.a.now c.args.b.now c.loop-at.at c.index-a-at.result c.index-b-at.result c.loop-at.sum _ _ c.requires.sign (omega arith) c.requires.lengths c.index-a-at.is c.index-b-at.is c.magnitude.ensures.in_range c.magnitude-in-loop-at.ensures.in_range c.magnitude.ensures.magnitude c.magnitude-in-loop-at.ensures.magnitude c.loop-at.invariant.sum in
    unsigned_past value c.args.a.now c.args.b.now c.loop-at.at _ (omega arith) next fit (c.in-None.ensures.none e)

pub loop-at-preserved : goal.loop-at-preserved
loop-at-preserved g c =
    let value = g.T.Valued.value in
    let next = unsigned_next value g.T.RawWord.SIGNED g.T.Valued.BITS c.args.a.now c.args.b.now c.loop-at.at c.index-a-at.result c.index-b-at.result c.loop-at.sum _ _ c.requires.sign (omega arith) c.requires.lengths c.index-a-at.is c.index-b-at.is c.magnitude.ensures.in_range c.magnitude-in-loop-at.ensures.in_range c.magnitude.ensures.magnitude c.magnitude-in-loop-at.ensures.magnitude c.loop-at.invariant.sum in
    record { sum = ap pos c.in-Some.ensures.some ∙ next }
