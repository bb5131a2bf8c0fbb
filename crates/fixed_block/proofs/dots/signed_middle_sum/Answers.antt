use Rattle.std.proofs.Common.{rules, ◌≡◌, ◌+ℤ◌, ◌*ℤ◌, ℤ, FitsSigned, of_z, to_z, ap, sym, ◌∙◌, arith}
use Rattle.std.specs.Int.{w128}
use Rattle.std.proofs.lemmas.Int.{to_z-of_z}
use Rattle.fixed_block.proofs.Sums.{next_sum, product_size, sum_size, word_size}
use Rattle.fixed_block.proofs.dots.signed_middle_sum.Goals as goal

pub overflow_add-sum : goal.overflow_add-sum
overflow_add-sum g c =
    let value = g.T.Valued.value in
    let x = value c.index-a-at.result in
    let y = value c.index-b-at.result in
    let sum = to_z w128 c.loop-at.sum-bits in
    let first : to_z w128 (of_z w128 c.to_wide.result) ≡ x = search rules in
    let second : to_z w128 (of_z w128 c.to_wide-in-loop-at.result) ≡ y = search rules in
    let x_size = word_size g.T.RawWord.SIGNED g.T.Valued.BITS x c.requires.sign c.requires.width c.to_wide.ensures.in_range in
    let y_size = word_size g.T.RawWord.SIGNED g.T.Valued.BITS y c.requires.sign c.requires.width c.to_wide-in-loop-at.ensures.in_range in
    let size = product_size x y 2147483648 x_size y_size in
    let product_fits : FitsSigned w128 (x *ℤ y) = search rules in
    let more = sum_size sum (x *ℤ y) c.loop-at.at 4611686018427387904 c.loop-at.invariant.size size in
    let fits : FitsSigned w128 (sum +ℤ (x *ℤ y)) = search rules in
    rw (first, second, to_z-of_z w128 (x *ℤ y) product_fits) fits

pub loop-at-preserved : goal.loop-at-preserved
loop-at-preserved g c =
    let value = g.T.Valued.value in
    let x = value c.index-a-at.result in
    let y = value c.index-b-at.result in
    let sum = to_z w128 c.loop-at.sum-bits in
    let first : to_z w128 (of_z w128 c.to_wide.result) ≡ x = search rules in
    let second : to_z w128 (of_z w128 c.to_wide-in-loop-at.result) ≡ y = search rules in
    let x_size = word_size g.T.RawWord.SIGNED g.T.Valued.BITS x c.requires.sign c.requires.width c.to_wide.ensures.in_range in
    let y_size = word_size g.T.RawWord.SIGNED g.T.Valued.BITS y c.requires.sign c.requires.width c.to_wide-in-loop-at.ensures.in_range in
    let size = product_size x y 2147483648 x_size y_size in
    let product_fits : FitsSigned w128 (x *ℤ y) = search rules in
    let more = sum_size sum (x *ℤ y) c.loop-at.at 4611686018427387904 c.loop-at.invariant.size size in
    let fits : FitsSigned w128 (sum +ℤ (x *ℤ y)) = search rules in
    let next = next_sum value c.args.a.now c.args.b.now c.loop-at.at c.index-a-at.result c.index-b-at.result (omega arith) c.requires.lengths c.index-a-at.is c.index-b-at.is in
    rw (first, second, to_z-of_z w128 (x *ℤ y) product_fits, to_z-of_z w128 (sum +ℤ (x *ℤ y)) fits) (record { sum = ap (λ (s : ℤ). s +ℤ (x *ℤ y)) c.loop-at.invariant.sum ∙ sym next; size = more })
