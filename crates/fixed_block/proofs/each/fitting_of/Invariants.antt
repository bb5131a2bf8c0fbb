use Rattle.std.proofs.Common.{◌≡◌, ◌+◌, ◌-◌, ◌≤◌, map, drop, length}
use Rattle.fixed_block.specs.Blocks.{fitting}
use Rattle.fixed_block.proofs.each.fitting_of.Given as goal

abbrev pub invariant-loop-at : goal.invariant-loop-at
invariant-loop-at g l = record {
  within : l.at ≤ length l.block;
  split : fitting g.T.RawWord.SIGNED g.T.Valued.BITS (map (g.O.Each.exact l.operation) (map g.T.Valued.value l.block)) ≡ l.at + fitting g.T.RawWord.SIGNED g.T.Valued.BITS (map (g.O.Each.exact l.operation) (map g.T.Valued.value (drop l.at l.block)));
}

abbrev pub decreases-loop-at : goal.decreases-loop-at
decreases-loop-at g l = length l.block - l.at
