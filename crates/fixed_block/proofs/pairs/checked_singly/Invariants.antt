use Rattle.std.proofs.Common.{◌≤◌, map}
use Rattle.fixed_block.specs.Blocks.{fitting, of_pairs}
use Rattle.fixed_block.proofs.Fronts.{IsFront}
use Rattle.fixed_block.proofs.pairs.checked_singly.Given as goal

abbrev pub invariant-loop-at : goal.invariant-loop-at
invariant-loop-at g l =
    let xs = map g.T.Valued.value l.initial.block in
    let rows = of_pairs (g.O.Pairs.exact l.operation) xs (map g.T.Valued.value l.others) in
    record {
      front : IsFront rows xs l.at (map g.T.Valued.value l.block);
      fit : l.at ≤ fitting g.T.RawWord.SIGNED g.T.Valued.BITS rows;
    }
