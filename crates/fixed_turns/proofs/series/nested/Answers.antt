use Rattle.std.proofs.Common.{◌≡◌, ◌+◌, ◌-◌, ◌*◌, ◌^◌, ◌<◌, ◌≤◌, ℕ, refl, subst, rules, arith}
use Rattle.fixed_turns.specs.inside.Rests.{IsNestedTo}
use Rattle.fixed_turns.proofs.Nesting.{fits_in, next_fits, nested_none, nested_turn, nothing_left}
use Rattle.fixed_turns.proofs.series.nested.Goals as goal

pub loop-i-init : goal.loop-i-init
loop-i-init c = (λ e small. nested_none e c.args.square c.args.first c.args.count c.requires.least small, omega arith, λ none. refl)

pub overflow_sub-reciprocal : goal.overflow_sub-reciprocal
overflow_sub-reciprocal c = fits_in c.args.first c.args.count c.loop-i.i c.loop-i.less c.reciprocal.result c.requires.least c.loop-i-test.true c.loop-i.invariant.1 c.reciprocal.ensures

pub loop-i-preserved : goal.loop-i-preserved
loop-i-preserved c =
    let square = c.args.square in
    let less = c.loop-i.less in
    let from = c.reciprocal.result in
    let s = c.high-less.result in
    let is = c.reciprocal.ensures in
    let low = c.high-less.ensures.below in
    let high = c.high-less.ensures.above in
    let fits = fits_in c.args.first c.args.count c.loop-i.i less from c.requires.least c.loop-i-test.true c.loop-i.invariant.1 is in (
      λ e small. nested_turn e square c.args.first c.args.count c.loop-i.i less s c.requires.least small c.loop-i-test.true (c.loop-i.invariant.0 e small) (subst (λ (k : ℕ). less ≤ k) is fits)
          (subst (λ (k : ℕ). s * 2 ^ 64 ≤ square * (k - less)) is low) (subst (λ (k : ℕ). square * (k - less) < (s + 1) * 2 ^ 64) is high),
      next_fits square c.args.first c.args.count c.loop-i.i less s from (omega (arith, c.requires.square)) c.loop-i-test.true low is,
      λ none. nothing_left square (from - less) s none low,
    )

pub returns-clause-value : goal.returns-clause-value
returns-clause-value c = λ e small.
    let is : c.loop-i.i ≡ c.args.count = search rules in
    subst (λ (j : ℕ). IsNestedTo e c.args.square c.args.first c.args.count j c.loop-i.less) is (c.loop-i.invariant.0 e small)
