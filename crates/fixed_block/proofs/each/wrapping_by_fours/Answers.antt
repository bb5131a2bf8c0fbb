use Rattle.std.proofs.Common.{◌∙◌, ◌+◌, ◌-◌, map, length, arith}
use borrow.Rule.Slice.PartMut.{same_len_mid}
use Rattle.std.proofs.lemmas.List.{length-map}
use Rattle.fixed_word.specs.Format.{wrap}
use Rattle.fixed_block.proofs.Fours.{each_part, part_written, rest_written}
use Rattle.fixed_block.proofs.Fronts.{each_long}
use Rattle.fixed_block.proofs.each.wrapping_by_fours.Goals as goal

pub loop-block-preserved : goal.loop-block-preserved
loop-block-preserved g c =
    let value = g.T.Valued.value in
    let f = wrap g.T.RawWord.SIGNED g.T.Valued.BITS in
    let exact = g.O.Each.exact c.args.operation.now in
    let old = c.args.block.now in
    let now = c.loop-block.block in
    let i = c.loop-block.at in
    let rows = map exact (map value old) in
    record {
      within = omega (arith, c.loop-block-test.true, same_len_mid i (i + 4 - i) now c.wrapping_singly.new.block c.wrapping_singly.auto.block);
      front = part_written value (map f rows) old now c.wrapping_singly.new.block i (i + 4 - i) (i + 4) (length-map rows f ∙ each_long value exact old) c.loop-block.invariant.front
          (c.wrapping_singly.ensures ∙ each_part value f exact old now i (i + 4 - i) c.loop-block.invariant.front) (omega arith);
    }

pub returns : goal.returns
returns g c =
    let value = g.T.Valued.value in
    let f = wrap g.T.RawWord.SIGNED g.T.Valued.BITS in
    let exact = g.O.Each.exact c.args.operation.now in
    let old = c.args.block.now in
    let now = c.loop-block.block in
    let i = c.loop-block.at in
    let rows = map exact (map value old) in
    rest_written value (map f rows) old now c.wrapping_singly-2.new.block i (length now - i) (length-map rows f ∙ each_long value exact old) c.loop-block.invariant.front
    (c.wrapping_singly-2.ensures ∙ each_part value f exact old now i (length now - i) c.loop-block.invariant.front) (omega (arith, c.loop-block.auto.block, c.loop-block.invariant.within))
