use Rattle.std.proofs.Common.{arith}
use Rattle.fixed_block.proofs.Sums.{unsigned_next, unsigned_sum_size}
use Rattle.fixed_block.proofs.dots.unsigned_middle_sum.Goals as goal

pub loop-at-preserved : goal.loop-at-preserved
loop-at-preserved g c =
    let value = g.T.Valued.value in
    let x = c.index-a-at.result in
    let y = c.index-b-at.result in
    let next = unsigned_next value g.T.RawWord.SIGNED g.T.Valued.BITS c.args.a.now c.args.b.now c.loop-at.at x y c.loop-at.sum _ _ c.requires.sign (omega arith) c.requires.lengths c.index-a-at.is c.index-b-at.is c.magnitude.ensures.in_range c.magnitude-in-loop-at.ensures.in_range c.magnitude.ensures.magnitude c.magnitude-in-loop-at.ensures.magnitude c.loop-at.invariant.sum in
    let size = unsigned_sum_size g.T.RawWord.SIGNED g.T.Valued.BITS (value x) (value y) c.loop-at.at c.loop-at.sum _ _ c.requires.sign c.requires.width c.magnitude.ensures.in_range c.magnitude-in-loop-at.ensures.in_range c.magnitude.ensures.magnitude c.magnitude-in-loop-at.ensures.magnitude c.loop-at.invariant.size in
    rw (c.from.ensures, c.from-in-loop-at.ensures) (record { sum = next; size = size })
