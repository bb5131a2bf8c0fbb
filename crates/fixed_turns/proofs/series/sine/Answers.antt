use Rattle.std.proofs.Common.{◌≤◌, ◌+◌, ◌*◌, ◌^◌, ℕ, subst}
use Rattle.fixed_turns.specs.inside.Rests.{IsNestedTo}
use Rattle.fixed_turns.proofs.Sums.{sine_close}
use Rattle.fixed_turns.proofs.series.sine.Goals as goal

pub returns-clause-value : goal.returns-clause-value
returns-clause-value c = λ y n u.
    let w = c.nested.result in
    let k = subst (λ (j : ℕ). (e : ℕ) → 8 * (c.high.result + e) ≤ 5 * 2 ^ 64 → IsNestedTo e c.high.result 2 j j w) c.quotients.ensures c.nested.ensures.value in
    sine_close y c.args.x c.high.result w c.lessened.result c.args.bits n u c.requires c.high.ensures.below c.high.ensures.above k c.lessened.ensures
