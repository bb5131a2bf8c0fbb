use Rattle.std.proofs.Common.{◌≡◌, ◌-◌, ◌≤◌, map, length}
use Rattle.fixed_block.specs.Blocks.{of_pairs, saturating_block}
use Rattle.fixed_block.proofs.Fronts.{IsFront}
use Rattle.fixed_block.proofs.pairs.saturating_by_fours.Given as goal

abbrev pub invariant-loop-block : goal.invariant-loop-block
invariant-loop-block g l =
    let xs = map g.T.Valued.value l.initial.block in
    record {
      within : l.at ≤ length l.block;
      lengths : length l.block ≡ length l.others;
      front : IsFront (saturating_block g.T.RawWord.SIGNED g.T.Valued.BITS (of_pairs (g.O.Pairs.exact l.operation) xs (map g.T.Valued.value l.others))) xs l.at (map g.T.Valued.value l.block);
    }

abbrev pub decreases-loop-block : goal.decreases-loop-block
decreases-loop-block g l = length l.block - l.at
