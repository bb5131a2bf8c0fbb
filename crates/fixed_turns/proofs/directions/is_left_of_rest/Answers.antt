use Rattle.std.proofs.Common.{◌+◌, ◌*◌, ℤ, subst, sym, ◌≤ℤ◌}
use Rattle.fixed_word.specs.Format.{with_sign}
use Rattle.fixed_turns.specs.Series.{cosine_series, sine_series}
use Rattle.fixed_turns.proofs.Beside.{left_of, rest_sign, right_of}
use Rattle.fixed_turns.proofs.directions.is_left_of_rest.Goals as goal

pub returns-clause-left : goal.returns-clause-left
returns-clause-left c = λ on s y n m u sure.
    let v = c.sine.result in
    let e = rest_sign s c.args.angle.below c.args.angle.rest v c.args.a sure c.sine.ensures.none in
    left_of c.args.bits c.args.a c.args.b v c.cosine.result s c.args.under (sine_series y (n + 10)) (cosine_series y (m + 10))
    (subst (λ (z : ℤ). z ≤ℤ with_sign c.args.under (c.args.b * c.cosine.result)) (sym e) (c.is_at_most.ensures.left on)) (c.sine.ensures.value y n u) (c.cosine.ensures.value y m u)

pub returns-clause-right : goal.returns-clause-right
returns-clause-right c = λ off s y n m u sure.
    let v = c.sine.result in
    let e = rest_sign s c.args.angle.below c.args.angle.rest v c.args.a sure c.sine.ensures.none in
    right_of c.args.bits c.args.a c.args.b v c.cosine.result s c.args.under (sine_series y (n + 10)) (cosine_series y (m + 10))
    (subst (λ (z : ℤ). with_sign c.args.under (c.args.b * c.cosine.result) ≤ℤ z) (sym e) (c.is_at_most.ensures.right off)) (c.sine.ensures.value y n u) (c.cosine.ensures.value y m u)
