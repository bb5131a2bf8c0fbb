use Rattle.std.proofs.Common.{drop, fold, map}
use Rattle.fixed_ops.specs.Folds.{times}
use Rattle.fixed_ops.proofs.Walks.{IsOnTheWay}
use Rattle.fixed_ops.proofs.sums.product_from.Given as goal

abbrev pub invariant-loop-item : goal.invariant-loop-item
invariant-loop-item g l =
    let numbers = map (λ x. g.T.Valued.value x.bits) in
    IsOnTheWay g.T.RawWord.SIGNED g.T.Valued.BITS (times g.row.F) (fold (times g.row.F) (g.T.Valued.value l.fn.first.bits) (numbers l.rest)) (g.T.Valued.value l.total.bits) (numbers (drop l.item-index l.rest))
