use Rattle.std.proofs.Common.{arith}
use Rattle.fixed_word.specs.Format.{wrap}
use Rattle.fixed_block.proofs.Fronts.{each_step}
use Rattle.fixed_block.proofs.each.wrapping_singly.Goals as goal

pub loop-item-preserved : goal.loop-item-preserved
loop-item-preserved g c =
    each_step g.T.Valued.value (wrap g.T.RawWord.SIGNED g.T.Valued.BITS) (g.O.Each.exact c.args.operation.now) c.args.block.now c.loop-item.block c.loop-item.item-index c.item-item.result c.wrapped.result
    c.loop-item.invariant (omega arith) c.wrapped.ensures
