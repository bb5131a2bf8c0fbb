use Rattle.std.proofs.Common.{◌≡◌, ◌≤◌, ◌+◌, ◌-◌, ◌*◌, ◌^◌, ℕ, sym, subst, arith}
use Rattle.fixed_turns.specs.Series.{cosine_series}
use Rattle.fixed_turns.specs.inside.Rests.{IsClose, IsNestedTo, reach}
use Rattle.fixed_turns.proofs.Sums.{cosine_close, nothing_squared}
use Rattle.fixed_turns.proofs.series.cosine.Goals as goal

pub returns-clause-value : goal.returns-clause-value
returns-clause-value c = λ y n u.
    let w = c.nested.result in
    let e : c.from.result ≡ w = c.from.ensures in
    let k = subst (λ (j : ℕ). (e : ℕ) → 8 * (c.high.result + e) ≤ 5 * 2 ^ 64 → IsNestedTo e c.high.result 1 j j w) c.quotients.ensures c.nested.ensures.value in
    let close = cosine_close y c.args.x c.high.result w c.args.bits n u c.requires c.high.ensures.below c.high.ensures.above (omega arith) k in
    subst (λ (j : ℕ). IsClose (reach c.args.bits) (2 ^ 64 - j) (cosine_series y (n + 10))) (sym e) close

pub returns-clause-none : goal.returns-clause-none
returns-clause-none c = λ none.
    let e : c.from.result ≡ c.nested.result = c.from.ensures in
    let a = nothing_squared c.args.x c.high.result none c.high.ensures.below in
    let b = c.nested.ensures.none a in
    omega arith
