use Rattle.std.proofs.Common.{map}
use Rattle.fixed_block.specs.Blocks.{wrapping_block}
use Rattle.fixed_block.proofs.Fronts.{IsFront}
use Rattle.fixed_block.proofs.each.wrapping_singly.Given as goal

abbrev pub invariant-loop-item : goal.invariant-loop-item
invariant-loop-item g l =
    let xs = map g.T.Valued.value l.initial.block in
    IsFront (wrapping_block g.T.RawWord.SIGNED g.T.Valued.BITS (map (g.O.Each.exact l.operation) xs)) xs l.item-index (map g.T.Valued.value l.block)
