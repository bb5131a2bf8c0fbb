use Rattle.std.proofs.Common.{rules, ◌≡◌, ◌==◌, ◌≤◌, ◌+◌, ◌∙◌, ap, drop, take, length}
use Rattle.std.specs.List.{count_by}
use Rattle.fixed_calc.proofs.Parts.{part_counted}
use Rattle.fixed_calc.proofs.summary.count_of.Goals as goal

pub loop-at-preserved : goal.loop-at-preserved
loop-at-preserved c =
    let within : c.loop-at.at + c.min.result ≤ length c.args.text.now = search rules in
    let part : c.from-count.result ≡ count_by (λ b. b == c.args.byte) (take c.min.result (drop c.loop-at.at c.args.text.now)) = search rules in
    (within, ap (λ k. c.loop-at.count + k + count_by (λ b. b == c.args.byte) (drop (c.loop-at.at + c.min.result) c.args.text.now)) part ∙ part_counted (λ b. b == c.args.byte) c.args.text.now c.loop-at.at c.min.result c.loop-at.count _ c.loop-at.invariant.1)
