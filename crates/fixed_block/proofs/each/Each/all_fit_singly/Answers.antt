use Rattle.std.proofs.Common.{ap, sym, ◌∙◌, arith, map}
use Rattle.std.specs.List.{list_all}
use Rattle.std.proofs.lemmas.List.{take_all}
use Rattle.std.proofs.lemmas.List.Folds.{list_all-map}
use Rattle.fixed_word.specs.Format.{fits}
use Rattle.fixed_block.proofs.each.Each.all_fit_singly.Goals as goal

pub returns : goal.returns
returns g c =
    let test = fits g.T.RawWord.SIGNED g.T.Valued.BITS in
    let value = g.T.Valued.value in
    let exact = g.Self.Each.exact c.args.self.now in
    let block = c.args.block.now in
    c.loop-x.invariant ∙ ap (list_all (λ a. test (exact (value a)))) (take_all c.loop-x.x-index block (omega arith))
    ∙ sym (list_all-map test exact (map value block) ∙ list_all-map (λ z. test (exact z)) value block)
