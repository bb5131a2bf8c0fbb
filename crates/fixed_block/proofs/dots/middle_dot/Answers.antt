use Rattle.std.proofs.Common.{rules, ◌≡◌, ◌^◌, ℤ, pos, map, ap, ◌∙◌, of_z, to_z}
use Rattle.std.specs.Int.{w128}
use Rattle.fixed_word.specs.Quotient.{floor_quotient}
use Rattle.fixed_block.specs.Dots.{exact_dot}
use Rattle.fixed_block.proofs.Sums.{whole_sum}
use Rattle.fixed_block.proofs.dots.middle_dot.Goals as goal

pub returns-then-SIGNED : goal.returns-then-SIGNED
returns-then-SIGNED g c =
    let same : to_z w128 (of_z w128 c.signed_middle_sum.result) ≡ c.signed_middle_sum.result = search rules in
    rw (same ∙ (c.signed_middle_sum.ensures ∙ whole_sum g.T.Valued.value c.args.a.now c.args.b.now c.requires.lengths)) at c.outcome_of_sum.ensures

pub returns-else-SIGNED : goal.returns-else-SIGNED
returns-else-SIGNED g c =
    let value = g.T.Valued.value in
    let is : pos c.floored.result ≡ exact_dot (map value c.args.a.now) (map value c.args.b.now) c.args.frac = c.floored.ensures ∙ ap (λ (z : ℤ). floor_quotient z (2 ^ c.args.frac)) (c.unsigned_middle_sum.ensures ∙ whole_sum value c.args.a.now c.args.b.now c.requires.lengths) in
    rw is at c.outcome_of_magnitude.ensures
