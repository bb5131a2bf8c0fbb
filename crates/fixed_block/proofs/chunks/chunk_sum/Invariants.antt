use Rattle.std.specs.Prelude.{◌≡◌, ◌≤◌, ◌*◌, ◌+ℤ◌, ◌*ℤ◌, map, nat_abs, pos}
use Rattle.fixed_block.specs.Dots.{partial_sum}
use Rattle.fixed_block.proofs.chunks.chunk_sum.Given as goal

abbrev pub invariant-loop-at : goal.invariant-loop-at
invariant-loop-at g l = record {
  sum : (l.high *ℤ pos 65536) +ℤ l.low ≡ partial_sum (map g.T.Valued.value l.a) (map g.T.Valued.value l.b) l.at;
  high : nat_abs l.high ≤ l.at * 65536;
  low : nat_abs l.low ≤ l.at * 65536;
}
