use Rattle.std.specs.Prelude.{◌*ℤ◌, map}
use Rattle.fixed_block.proofs.Parts.{IsPast}
use Rattle.fixed_block.proofs.operations.short_products_fit.Given as goal

abbrev pub invariant-loop-x : goal.invariant-loop-x
invariant-loop-x g l =
    IsPast g.T.RawWord.SIGNED g.T.Valued.BITS (map (λ x. x *ℤ g.T.Valued.value l.k) (map g.T.Valued.value l.block)) l.x-index (g.T.Whole.Valued.value l.past)
