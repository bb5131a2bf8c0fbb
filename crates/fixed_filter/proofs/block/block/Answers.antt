use Rattle.std.proofs.Common.{length, take}
use Rattle.fixed_filter.specs.Blocks.{taken_of}
use Rattle.fixed_filter.proofs.Blocks.{newest_kept}
use Rattle.fixed_filter.proofs.block.block.Goals as goal

pub returns-clause-past : goal.returns-clause-past
returns-clause-past g c =
    let before = c.args.past.now in
    let samples = c.args.input.now in
    let count = c.taken-count.ensures.value in
    newest_kept before (take (taken_of (length samples) c.outputs-result.result) samples) c.outputs-result.new.past c.keep_newest.new.past c.outputs-result.ensures.past (rw count at c.keep_newest.ensures.newest) (rw count at c.keep_newest.ensures.kept)
