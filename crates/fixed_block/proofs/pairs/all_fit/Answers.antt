use Rattle.std.proofs.Common.{ap, ◌∙◌, arith, map}
use Rattle.std.specs.List.{list_all}
use Rattle.std.proofs.lemmas.List.{length-map, take_all}
use Rattle.fixed_word.specs.Format.{fits}
use Rattle.fixed_block.specs.Blocks.{of_pairs}
use Rattle.fixed_block.proofs.Fronts.{pairs_long}
use Rattle.fixed_block.proofs.Tested.{one_passed, pair_at}
use Rattle.fixed_block.proofs.pairs.all_fit.Goals as goal

pub loop-at-preserved : goal.loop-at-preserved
loop-at-preserved g c =
    let test = fits g.T.RawWord.SIGNED g.T.Valued.BITS in
    let value = g.T.Valued.value in
    let exact = g.O.Pairs.exact c.args.operation.now in
    let x = c.index-block-at.result in
    let y = c.index-others-at.result in
    let block = c.args.block.now in
    let others = c.args.others.now in
    one_passed test (of_pairs exact (map value block) (map value others)) c.loop-at.at (value x) (exact (value x) (value y)) c.loop-at.all c.fits-all.result c.loop-at.invariant (pair_at value exact block others c.loop-at.at x y c.requires.lengths c.index-block-at.is c.index-others-at.is (omega arith)) c.fits-all.ensures

pub returns : goal.returns
returns g c =
    let test = fits g.T.RawWord.SIGNED g.T.Valued.BITS in
    let value = g.T.Valued.value in
    let exact = g.O.Pairs.exact c.args.operation.now in
    let block = c.args.block.now in
    let others = c.args.others.now in
    let rows = of_pairs exact (map value block) (map value others) in
    c.loop-at.invariant ∙ ap (list_all test) (take_all c.loop-at.at rows (omega (arith, pairs_long value exact block others c.requires.lengths, length-map block value)))
