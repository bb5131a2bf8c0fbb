use Rattle.std.proofs.Common.{◌≤◌, map}
use Rattle.fixed_block.specs.Blocks.{fitting, of_pairs}
use Rattle.fixed_block.proofs.pairs.fitting_singly.Given as goal

abbrev pub invariant-loop-at : goal.invariant-loop-at
invariant-loop-at g l =
    l.at ≤ fitting g.T.RawWord.SIGNED g.T.Valued.BITS (of_pairs (g.O.Pairs.exact l.operation) (map g.T.Valued.value l.block) (map g.T.Valued.value l.others))
