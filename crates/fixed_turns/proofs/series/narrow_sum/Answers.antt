use Rattle.std.proofs.Common.{◌≡◌, ◌≤◌, ◌+◌, ◌-◌, ◌*◌, ◌^◌, ℕ, subst, arith}
use Rattle.fixed_turns.specs.inside.Rests.{IsLessened, IsNestedTo}
use Rattle.fixed_turns.proofs.Sums.{narrow_cosine_close, narrow_sine_close}
use Rattle.fixed_turns.proofs.series.narrow_sum.Goals as goal

pub returns-clause-sine : goal.returns-clause-sine
returns-clause-sine c = λ none y n some u.
    let w = c.nested.result in
    let s = c.lessened.result in
    let all = subst (λ (j : ℕ). (e : ℕ) → 8 * (c.high.result + e) ≤ 5 * 2 ^ 64 → IsNestedTo e c.high.result (2 - c.args.quarter) j j w) c.quotients.ensures c.nested.ensures.value in
    let first : 2 - c.args.quarter ≡ 2 = omega (arith, none) in
    let part : c.either-factor.result ≡ c.args.x = grind (arith, none, c.either-factor.ensures) in
    let h = subst (λ (j : ℕ). (e : ℕ) → 8 * (c.high.result + e) ≤ 5 * 2 ^ 64 → IsNestedTo e c.high.result j 6 6 w) first all in
    narrow_sine_close y c.args.x c.high.result w s n some u c.requires.small c.high.ensures.below c.high.ensures.above h (subst (λ (j : ℕ). IsLessened j w s) part c.lessened.ensures)

pub returns-clause-cosine : goal.returns-clause-cosine
returns-clause-cosine c = λ one y n some u.
    let w = c.nested.result in
    let s = c.lessened.result in
    let all = subst (λ (j : ℕ). (e : ℕ) → 8 * (c.high.result + e) ≤ 5 * 2 ^ 64 → IsNestedTo e c.high.result (2 - c.args.quarter) j j w) c.quotients.ensures c.nested.ensures.value in
    let first : 2 - c.args.quarter ≡ 1 = omega (arith, one) in
    let part : c.either-factor.result ≡ 2 ^ 64 - 1 = grind (arith, one, c.either-factor.ensures) in
    let h = subst (λ (j : ℕ). (e : ℕ) → 8 * (c.high.result + e) ≤ 5 * 2 ^ 64 → IsNestedTo e c.high.result j 6 6 w) first all in
    narrow_cosine_close y c.args.x c.high.result w s n some u c.requires.small c.high.ensures.below c.high.ensures.above h (omega arith) (subst (λ (j : ℕ). IsLessened j w s) part c.lessened.ensures)
