use Rattle.std.proofs.Common.{rules, ◌≡◌, ◌^◌, ℤ, pos, map, ap, ◌∙◌, of_z, to_z}
use Rattle.std.specs.Int.{w128}
use Rattle.fixed_word.specs.Quotient.{floor_quotient}
use Rattle.fixed_block.specs.Dots.{exact_dot}
use Rattle.fixed_block.proofs.Sums.{whole_sum}
use Rattle.fixed_block.proofs.dots.dot_of.Goals as goal

pub returns-in-Some-clause-dot : goal.returns-in-Some-clause-dot
returns-in-Some-clause-dot g c =
    let same : to_z w128 (of_z w128 c.in-Some.sum) ≡ c.in-Some.sum = search rules in
    rw (same ∙ (c.in-Some.ensures.sum ∙ whole_sum g.T.Valued.value c.args.a.now c.args.b.now c.requires.lengths)) at c.outcome_of_sum-in-Some.ensures

pub returns-in-Some-unsigned_sum-clause-dot : goal.returns-in-Some-unsigned_sum-clause-dot
returns-in-Some-unsigned_sum-clause-dot g c =
    let value = g.T.Valued.value in
    let is : pos c.floored.result ≡ exact_dot (map value c.args.a.now) (map value c.args.b.now) c.args.frac = c.floored.ensures ∙ ap (λ (z : ℤ). floor_quotient z (2 ^ c.args.frac)) (c.in-Some-unsigned_sum.ensures.sum ∙ whole_sum value c.args.a.now c.args.b.now c.requires.lengths) in
    rw is at c.outcome_of_magnitude.ensures

pub returns-then-BITS-lt32-clause-dot : goal.returns-then-BITS-lt32-clause-dot
returns-then-BITS-lt32-clause-dot g c =
    let same : to_z w128 (of_z w128 c.short_sum.result) ≡ c.short_sum.result = search rules in
    rw (same ∙ (c.short_sum.ensures ∙ whole_sum g.T.Valued.value c.args.a.now c.args.b.now c.requires.lengths)) at c.outcome_of_sum.ensures
