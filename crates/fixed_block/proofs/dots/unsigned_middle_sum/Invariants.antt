use Rattle.std.specs.Prelude.{◌≡◌, ◌≤◌, ◌*◌, ◌^◌, map, pos}
use Rattle.fixed_block.specs.Dots.{partial_sum}
use Rattle.fixed_block.proofs.dots.unsigned_middle_sum.Given as goal

abbrev pub invariant-loop-at : goal.invariant-loop-at
invariant-loop-at g l = record {
  sum : pos l.sum ≡ partial_sum (map g.T.Valued.value l.a) (map g.T.Valued.value l.b) l.at;
  size : l.sum ≤ l.at * 2 ^ 64;
}
