use Rattle.std.proofs.Common.{◌≡◌, ◌==◌, map, length, Some, None, false, ap, sym, ◌∙◌, if◌then◌else◌, arith}
use Rattle.std.proofs.lemmas.Bool.Decides.{nat_tests}
use Rattle.std.proofs.lemmas.List.{length-map}
use Rattle.fixed_word.proofs.Wraps.{width_pos}
use Rattle.fixed_block.specs.Blocks.{fitting, of_pairs}
use Rattle.fixed_block.proofs.Fronts.{pairs_long}
use Rattle.fixed_block.proofs.Tested.{pairs_kept}
use Rattle.fixed_block.proofs.pairs.checked_after_test.Goals as goal

pub returns-then-fit-block-clause-block : goal.returns-then-fit-block-clause-block
returns-then-fit-block-clause-block g c =
    pairs_kept g.T.Valued.value (g.O.Pairs.exact c.args.operation.now) g.T.RawWord.SIGNED g.T.Valued.BITS c.args.block.now c.args.others.now c.wrapping_pairs.new.block c.fitting_of-fit.result (width_pos g.T.Valued.BITS g.met.T.RawWord.width_law) c.fitting_of-fit.ensures.value c.wrapping_pairs.ensures

pub returns-else-fit-block-clause-block : goal.returns-else-fit-block-clause-block
returns-else-fit-block-clause-block g c =
    pairs_kept g.T.Valued.value (g.O.Pairs.exact c.args.operation.now) g.T.RawWord.SIGNED g.T.Valued.BITS c.args.block.now c.args.others.now c.wrapping_pairs.new.block c.fitting_of-fit.result (width_pos g.T.Valued.BITS g.met.T.RawWord.width_law) c.fitting_of-fit.ensures.value c.wrapping_pairs.ensures

pub returns-else-fit-block-clause-place : goal.returns-else-fit-block-clause-place
returns-else-fit-block-clause-place g c =
    let s = g.T.RawWord.SIGNED in
    let n = g.T.Valued.BITS in
    let value = g.T.Valued.value in
    let exact = g.O.Pairs.exact c.args.operation.now in
    let block = c.args.block.now in
    let rows = of_pairs exact (map value block) (map value c.args.others.now) in
    let long : length rows ≡ length block = omega (arith, pairs_long value exact block c.args.others.now c.requires.lengths, length-map block value) in
    let less : (fitting s n rows == length rows) ≡ false = grind (arith, nat_tests, c.fitting_of-fit.ensures.value, long, c.if-fit-block.false) in
    ap Some c.fitting_of-fit.ensures.value ∙ sym (ap (λ b. if b then None else Some (fitting s n rows)) less)
