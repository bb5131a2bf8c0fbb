use Rattle.std.proofs.Common.{◌≡◌, map, take}
use Rattle.std.specs.List.{list_all}
use Rattle.fixed_word.specs.Format.{fits}
use Rattle.fixed_block.specs.Blocks.{of_pairs}
use Rattle.fixed_block.proofs.pairs.all_fit.Given as goal

abbrev pub invariant-loop-at : goal.invariant-loop-at
invariant-loop-at g l =
    l.all ≡ list_all (fits g.T.RawWord.SIGNED g.T.Valued.BITS) (take l.at (of_pairs (g.O.Pairs.exact l.operation) (map g.T.Valued.value l.block) (map g.T.Valued.value l.others)))
