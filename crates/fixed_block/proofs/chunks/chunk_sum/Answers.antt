use Rattle.std.proofs.Common.{rules, ◌≡◌, ◌+ℤ◌, w32, FitsSigned, of_z, to_z, sym, ◌∙◌, arith}
use Rattle.std.proofs.lemmas.Int.{to_z-of_z}
use Rattle.fixed_block.proofs.Sums.{halves_step, next_sum, sum_size}
use Rattle.fixed_block.proofs.chunks.chunk_sum.Goals as goal

pub loop-at-preserved : goal.loop-at-preserved
loop-at-preserved g c =
    let value = g.T.Valued.value in
    let x = c.index-a-at.result in
    let y = c.index-b-at.result in
    let high = to_z w32 c.loop-at.high-bits in
    let low = to_z w32 c.loop-at.low-bits in
    let more_high = c.halves-more_high.result.0 in
    let more_low = c.halves-more_high.result.1 in
    let next = next_sum value c.args.a.now c.args.b.now c.loop-at.at x y (omega arith) c.requires.lengths c.index-a-at.is c.index-b-at.is in
    let first : to_z w32 (of_z w32 more_high) ≡ more_high = search rules in
    let second : to_z w32 (of_z w32 more_low) ≡ more_low = search rules in
    let high_size = sum_size high more_high c.loop-at.at 65536 c.loop-at.invariant.high c.halves-more_high.ensures.high in
    let low_size = sum_size low more_low c.loop-at.at 65536 c.loop-at.invariant.low c.halves-more_high.ensures.low in
    let high_fits : FitsSigned w32 (high +ℤ more_high) = search rules in
    let low_fits : FitsSigned w32 (low +ℤ more_low) = search rules in
    let sum = halves_step high low more_high more_low _ _ c.loop-at.invariant.sum c.halves-more_high.ensures.value in
    rw (first, second, to_z-of_z w32 (high +ℤ more_high) high_fits, to_z-of_z w32 (low +ℤ more_low) low_fits) (record { sum = sum ∙ sym next; high = high_size; low = low_size })
