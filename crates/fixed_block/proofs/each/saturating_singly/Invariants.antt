use Rattle.std.proofs.Common.{map}
use Rattle.fixed_block.specs.Blocks.{saturating_block}
use Rattle.fixed_block.proofs.Fronts.{IsFront}
use Rattle.fixed_block.proofs.each.saturating_singly.Given as goal

abbrev pub invariant-loop-item : goal.invariant-loop-item
invariant-loop-item g l =
    let xs = map g.T.Valued.value l.initial.block in
    IsFront (saturating_block g.T.RawWord.SIGNED g.T.Valued.BITS (map (g.O.Each.exact l.operation) xs)) xs l.item-index (map g.T.Valued.value l.block)
