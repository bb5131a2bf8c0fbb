use Rattle.std.specs.Prelude.{◌≡◌, ◌≤◌, ◌-◌, length, map}
use Rattle.fixed_block.specs.Dots.{partial_sum}
use Rattle.fixed_block.proofs.dots.signed_sum.Given as goal

abbrev pub invariant-loop-at : goal.invariant-loop-at
invariant-loop-at g l = record {
  front : l.at ≤ length l.a;
  sum : l.sum ≡ partial_sum (map g.T.Valued.value l.a) (map g.T.Valued.value l.b) l.at;
}

abbrev pub decreases-loop-at : goal.decreases-loop-at
decreases-loop-at g l = length l.a - l.at
