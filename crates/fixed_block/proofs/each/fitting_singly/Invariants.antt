use Rattle.std.proofs.Common.{◌≤◌, map}
use Rattle.fixed_block.specs.Blocks.{fitting}
use Rattle.fixed_block.proofs.each.fitting_singly.Given as goal

abbrev pub invariant-loop-at : goal.invariant-loop-at
invariant-loop-at g l =
    l.at ≤ fitting g.T.RawWord.SIGNED g.T.Valued.BITS (map (g.O.Each.exact l.operation) (map g.T.Valued.value l.block))
