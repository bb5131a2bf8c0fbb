use Rattle.std.proofs.Common.{◌≡◌, take}
use Rattle.std.specs.List.{list_all}
use Rattle.fixed_word.specs.Format.{fits}
use Rattle.fixed_block.proofs.each.Each.all_fit_singly.Given as goal

abbrev pub invariant-loop-x : goal.invariant-loop-x
invariant-loop-x g l =
    l.all ≡ list_all (λ a. fits g.T.RawWord.SIGNED g.T.Valued.BITS (g.Self.Each.exact l.self (g.T.Valued.value a))) (take l.x-index l.block)
