use Rattle.std.proofs.Common.{arith}
use Rattle.fixed_word.specs.Format.{clamp}
use Rattle.fixed_block.proofs.Fronts.{each_step}
use Rattle.fixed_block.proofs.each.saturating_singly.Goals as goal

pub loop-item-preserved : goal.loop-item-preserved
loop-item-preserved g c =
    let value = g.T.Valued.value in
    let exact = g.O.Each.exact c.args.operation.now in
    let now = c.loop-item.block in
    let i = c.loop-item.item-index in
    let x = c.item-item.result in
    each_step value (clamp g.T.RawWord.SIGNED g.T.Valued.BITS) exact c.args.block.now now i x c.nearest.result c.loop-item.invariant (omega arith)
    c.nearest.ensures
