use Rattle.std.proofs.Common.{map, ◌∙◌, arith}
use Rattle.std.proofs.lemmas.Option.{same_Some}
use Rattle.std.proofs.lemmas.List.{length-map}
use Rattle.fixed_word.specs.Format.{clamp}
use Rattle.fixed_block.specs.Blocks.{of_pairs}
use Rattle.fixed_block.proofs.Fronts.{all_written, pair_step, pairs_long}
use Rattle.fixed_block.proofs.pairs.saturating_singly.Goals as goal

pub loop-at-preserved : goal.loop-at-preserved
loop-at-preserved g c =
    let value = g.T.Valued.value in
    let exact = g.O.Pairs.exact c.args.operation.now in
    let x = c.index-block-at.result in
    let o = c.index-others-at.result in
    pair_step value (clamp g.T.RawWord.SIGNED g.T.Valued.BITS) exact c.args.block.now c.args.others.now c.loop-at.block c.loop-at.at x o c.saturating_of.result c.requires.lengths c.index-block-at.is c.index-others-at.is c.loop-at.invariant (omega arith)
    (same_Some _ _ (c.saturating_of.ensures (exact (value x) (value o)) c.outcome.ensures))

pub returns : goal.returns
returns g c =
    let value = g.T.Valued.value in
    let rows = of_pairs (g.O.Pairs.exact c.args.operation.now) (map value c.args.block.now) (map value c.args.others.now) in
    all_written (map (clamp g.T.RawWord.SIGNED g.T.Valued.BITS) rows) (map value c.args.block.now) (map value c.loop-at.block) c.loop-at.at c.loop-at.invariant
    (length-map rows (clamp g.T.RawWord.SIGNED g.T.Valued.BITS) ∙ pairs_long value (g.O.Pairs.exact c.args.operation.now) c.args.block.now c.args.others.now c.requires.lengths)
    (omega (arith, length-map c.args.block.now value))
