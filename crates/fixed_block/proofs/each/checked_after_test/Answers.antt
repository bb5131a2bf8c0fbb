use Rattle.fixed_word.proofs.Wraps.{width_pos}
use Rattle.fixed_block.proofs.Tested.{each_kept}
use Rattle.fixed_block.proofs.each.checked_after_test.Goals as goal

pub returns-then-fit-block-clause-block : goal.returns-then-fit-block-clause-block
returns-then-fit-block-clause-block g c =
    each_kept g.T.Valued.value (g.O.Each.exact c.args.operation.now) g.T.RawWord.SIGNED g.T.Valued.BITS c.args.block.now c.wrapping_each.new.block c.fitting_of-fit.result (width_pos g.T.Valued.BITS g.met.T.RawWord.width_law) c.fitting_of-fit.ensures.value c.wrapping_each.ensures

pub returns-else-fit-block-clause-block : goal.returns-else-fit-block-clause-block
returns-else-fit-block-clause-block g c =
    each_kept g.T.Valued.value (g.O.Each.exact c.args.operation.now) g.T.RawWord.SIGNED g.T.Valued.BITS c.args.block.now c.wrapping_each.new.block c.fitting_of-fit.result (width_pos g.T.Valued.BITS g.met.T.RawWord.width_law) c.fitting_of-fit.ensures.value c.wrapping_each.ensures
