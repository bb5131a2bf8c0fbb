use Rattle.std.specs.Prelude.{◌≡◌, ◌+ℤ◌, map}
use Rattle.fixed_block.specs.Dots.{partial_sum}
use Rattle.fixed_block.proofs.dots.signed_sum_from.Given as goal

abbrev pub invariant-loop-at : goal.invariant-loop-at
invariant-loop-at g l = record { sum : l.sum ≡ l.from +ℤ partial_sum (map g.T.Valued.value l.a) (map g.T.Valued.value l.b) l.at }
