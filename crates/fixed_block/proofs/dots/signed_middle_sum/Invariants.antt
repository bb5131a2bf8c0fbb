use Rattle.std.specs.Prelude.{◌≡◌, ◌≤◌, ◌*◌, ◌^◌, map, nat_abs}
use Rattle.fixed_block.specs.Dots.{partial_sum}
use Rattle.fixed_block.proofs.dots.signed_middle_sum.Given as goal

abbrev pub invariant-loop-at : goal.invariant-loop-at
invariant-loop-at g l = record {
  sum : l.sum ≡ partial_sum (map g.T.Valued.value l.a) (map g.T.Valued.value l.b) l.at;
  size : nat_abs l.sum ≤ l.at * 2 ^ 62;
}
