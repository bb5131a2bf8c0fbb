use Rattle.std.proofs.Common.{refl}
use Rattle.fixed_decimal.proofs.Laid.{nothing_written, once_more}
use Rattle.fixed_decimal.proofs.layout.write_repeated.Goals as goal

pub loop-init : goal.loop-init
loop-init g c flush = nothing_written _ _ flush

pub loop-preserved : goal.loop-preserved
loop-preserved g c flush =
    let so_far = c.loop.invariant flush in
    once_more _ _ _ _ _ _ so_far (c.in_ok-write_char.ensures.styled so_far.flush refl)
