use Rattle.std.proofs.Common.{◌+◌, ◌-◌, ◌*◌, ◌^◌, ◌<◌, ◌≤◌, ◌≡◌, ℕ, Some, None, subst, arith}
use Rattle.std.proofs.lemmas.Bool.{iff_false}
use Rattle.fixed_natural.specs.inside.Scaling.{IsQuotient}
use Rattle.fixed_natural.proofs.Moving.{exponent_down, exponent_up, sum_fits}
use Rattle.fixed_natural.proofs.exponentials.exponent_of.Goals as goal

pub overflow_add-result : goal.overflow_add-result
overflow_add-result g c =
    let m = c.magnitude.result in
    let factor : ℕ = 0xb8aa3b295c17f0bbbe87fed0691d3e88 in
    let fits : m < 2 ^ 64 = omega arith in
    let x = subst (λ (n : ℕ). IsQuotient (n * factor) (2 ^ 128 * 2 ^ 0) c.scaled-else-is_below_zero.result) c.moved-units.ensures c.scaled-else-is_below_zero.ensures in
    let t = sum_fits m c.args.frac c.args.places factor c.scaled-else-is_below_zero.result fits c.requires.frac c.requires.places (omega arith) x.below in
    let o = c.in_places-offset.ensures in
    omega arith

pub overflow_add-result-else-is_below_zero : goal.overflow_add-result-else-is_below_zero
overflow_add-result-else-is_below_zero g c =
    let m = c.magnitude.result in
    let factor : ℕ = 0xb8aa3b295c17f0bbbe87fed0691d3e88 in
    let fits : m < 2 ^ 64 = omega arith in
    let x = subst (λ (n : ℕ). IsQuotient (n * factor) (2 ^ 128 * 2 ^ 0) c.scaled-else-is_below_zero.result) c.moved-units.ensures c.scaled-else-is_below_zero.ensures in
    let t = sum_fits m c.args.frac c.args.places factor c.scaled-else-is_below_zero.result fits c.requires.frac c.requires.places (omega arith) x.below in
    let o = c.in_places-offset.ensures in
    omega arith

pub returns-else-is_below_zero : goal.returns-else-is_below_zero
returns-else-is_below_zero g c = λ p q o i.
    let m = c.magnitude.result in
    let fits : m < 2 ^ 64 = omega arith in
    let x = subst (λ (n : ℕ). IsQuotient (n * 0xb8aa3b295c17f0bbbe87fed0691d3e88) (2 ^ 128 * 2 ^ 0) c.scaled-else-is_below_zero.result) c.moved-units.ensures c.scaled-else-is_below_zero.ensures in
    let sign = iff_false c.is_below_zero.ensures.sign c.if-is_below_zero.false in
    rw c.in_places-offset.ensures (exponent_up p q (g.T.Valued.value c.args.a) c.args.frac c.args.places m 0xb8aa3b295c17f0bbbe87fed0691d3e88 c.scaled-else-is_below_zero.result o c.requires.frac c.requires.places sign c.magnitude.ensures.magnitude fits i x)

pub returns-then-is_below_zero : goal.returns-then-is_below_zero
returns-then-is_below_zero g c = λ p q o i.
    let m = c.magnitude.result in
    let e = c.scaled.result in
    let z = c.difference.result in
    let fits : m < 2 ^ 64 = omega arith in
    let x = subst (λ (n : ℕ). IsQuotient (n * (0xb8aa3b295c17f0bbbe87fed0691d3e88 + 1)) (2 ^ 128 * 2 ^ 0) e) c.moved-units.ensures c.scaled.ensures in
    let sign = c.is_below_zero.ensures.sign.0 c.if-is_below_zero.true in
    let nothing = subst (λ (n : ℕ). n + 2 < e → z ≡ None) c.in_places-offset.ensures c.difference.ensures.below in
    let something = subst (λ (n : ℕ). e ≤ n + 2 → z ≡ Some (n + 2 - e)) c.in_places-offset.ensures c.difference.ensures.above in
    exponent_down p q (g.T.Valued.value c.args.a) c.args.frac c.args.places m 0xb8aa3b295c17f0bbbe87fed0691d3e88 e z o c.requires.frac c.requires.places sign c.magnitude.ensures.magnitude fits i x nothing something
