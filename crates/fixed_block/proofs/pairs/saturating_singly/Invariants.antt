use Rattle.std.proofs.Common.{map}
use Rattle.fixed_block.specs.Blocks.{of_pairs, saturating_block}
use Rattle.fixed_block.proofs.Fronts.{IsFront}
use Rattle.fixed_block.proofs.pairs.saturating_singly.Given as goal

abbrev pub invariant-loop-at : goal.invariant-loop-at
invariant-loop-at g l =
    let xs = map g.T.Valued.value l.initial.block in
    IsFront (saturating_block g.T.RawWord.SIGNED g.T.Valued.BITS (of_pairs (g.O.Pairs.exact l.operation) xs (map g.T.Valued.value l.others))) xs l.at (map g.T.Valued.value l.block)
