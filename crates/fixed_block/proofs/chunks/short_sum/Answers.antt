use Rattle.std.proofs.Common.{rules, ◌≡◌, ◌≤◌, ◌+◌, ◌+ℤ◌, ℤ, FitsSigned, of_z, to_z, length, ap, sym, ◌∙◌, arith}
use Rattle.std.specs.Int.{w128}
use Rattle.std.proofs.lemmas.Int.{to_z-of_z}
use Rattle.fixed_block.proofs.Sums.{chunk_size, chunk_step}
use Rattle.fixed_block.proofs.chunks.short_sum.Goals as goal

pub loop-at-preserved : goal.loop-at-preserved
loop-at-preserved g c =
    let value = g.T.Valued.value in
    let sum = to_z w128 c.loop-at.sum-bits in
    let at = c.loop-at.at in
    let more = c.min.result in
    let chunk = c.chunk_sum.result in
    let is : to_z w128 (of_z w128 c.from-sum.result) ≡ chunk = search rules in
    let front : at + more ≤ length c.args.a.now = omega (arith, c.min.ensures, c.loop-at-test.true, c.loop-at.invariant.front) in
    let some : 1 ≤ more = omega (arith, c.min.ensures, c.loop-at-test.true) in
    let size = chunk_size sum chunk at more 140737488355328 c.loop-at.invariant.size c.chunk_sum.ensures.size some in
    let fits : FitsSigned w128 (sum +ℤ chunk) = search rules in
    let next = chunk_step value c.args.a.now c.args.b.now at more chunk front c.requires.lengths c.chunk_sum.ensures.sum in
    rw (is, to_z-of_z w128 (sum +ℤ chunk) fits) (record { front = front; sum = ap (λ (s : ℤ). s +ℤ chunk) c.loop-at.invariant.sum ∙ sym next; size = size })
