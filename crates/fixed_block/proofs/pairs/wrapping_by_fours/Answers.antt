use Rattle.std.proofs.Common.{◌∙◌, ◌+◌, ◌-◌, map, length, refl, arith}
use borrow.Rule.Slice.PartMut.{same_len_mid}
use Rattle.std.proofs.lemmas.List.{length-map}
use Rattle.fixed_word.specs.Format.{wrap}
use Rattle.fixed_block.specs.Blocks.{of_pairs}
use Rattle.fixed_block.proofs.Fours.{pairs_part, part_written, rest_written}
use Rattle.fixed_block.proofs.Fronts.{pairs_long}
use Rattle.fixed_block.proofs.pairs.wrapping_by_fours.Goals as goal

pub loop-block-preserved : goal.loop-block-preserved
loop-block-preserved g c =
    let value = g.T.Valued.value in
    let f = wrap g.T.RawWord.SIGNED g.T.Valued.BITS in
    let exact = g.O.Pairs.exact c.args.operation.now in
    let old = c.args.block.now in
    let others = c.args.others.now in
    let now = c.loop-block.block in
    let i = c.loop-block.at in
    let rows = of_pairs exact (map value old) (map value others) in
    let as_long = same_len_mid i (i + 4 - i) now c.wrapping_singly.new.block c.wrapping_singly.auto.block in
    record {
      within = omega (arith, c.loop-block-test.true, as_long);
      lengths = as_long ∙ c.loop-block.invariant.lengths;
      front = part_written value (map f rows) old now c.wrapping_singly.new.block i (i + 4 - i) (i + 4) (length-map rows f ∙ pairs_long value exact old others c.requires.lengths) c.loop-block.invariant.front
          (c.wrapping_singly.ensures ∙ pairs_part value f exact old others now i (i + 4 - i) (i + 4 - i) c.requires.lengths refl c.loop-block.invariant.front) (omega arith);
    }

pub returns : goal.returns
returns g c =
    let value = g.T.Valued.value in
    let f = wrap g.T.RawWord.SIGNED g.T.Valued.BITS in
    let exact = g.O.Pairs.exact c.args.operation.now in
    let old = c.args.block.now in
    let others = c.args.others.now in
    let now = c.loop-block.block in
    let i = c.loop-block.at in
    let rows = of_pairs exact (map value old) (map value others) in
    rest_written value (map f rows) old now c.wrapping_singly-2.new.block i (length now - i) (length-map rows f ∙ pairs_long value exact old others c.requires.lengths) c.loop-block.invariant.front
    (c.wrapping_singly-2.ensures ∙ pairs_part value f exact old others now i (length now - i) (length others - i) c.requires.lengths (omega (arith, c.loop-block.invariant.lengths)) c.loop-block.invariant.front) (omega (arith, c.loop-block.auto.block, c.loop-block.invariant.within))
