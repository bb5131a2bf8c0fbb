use Rattle.std.proofs.Common.{drop, map}
use Rattle.std.specs.Prelude.{◌+ℤ◌}
use Rattle.fixed_ops.specs.Folds.{sum_of}
use Rattle.fixed_ops.proofs.Walks.{IsOnTheWay}
use Rattle.fixed_ops.proofs.sums.sum.Given as goal

abbrev pub invariant-loop-item : goal.invariant-loop-item
invariant-loop-item g l =
    let numbers = map (λ x. g.T.Valued.value x.bits) in
    IsOnTheWay g.T.RawWord.SIGNED g.T.Valued.BITS ◌+ℤ◌ (sum_of (numbers l.items)) (g.T.Valued.value l.total.bits) (numbers (drop l.item-index l.items))
