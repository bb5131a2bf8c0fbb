use Rattle.std.proofs.Common.{◌+◌, ◌-◌, ◌*◌, Bool, ap, ◌∙◌, arith}
use Rattle.fixed_word.specs.Format.{with_sign}
use Rattle.fixed_turns.specs.Angles.{turn_room}
use Rattle.fixed_turns.proofs.Coordinates.{ahead_of_none, ahead_of_one, behind_one, behind_two, quarter_small}
use Rattle.fixed_turns.proofs.points.by_quarters.Goals as goal

pub overflow_mul-result : goal.overflow_mul-result
overflow_mul-result c = let h = quarter_small c.args.frac c.requires.most in omega arith

pub returns-then-below : goal.returns-then-below
returns-then-below c = λ v is.
    let e = is ∙ ap (λ (b : Bool). with_sign b c.args.x) c.if-below.true in
    let m = c.rest_of-rest.result in
    let small = c.rest_of-rest.ensures.small in
    behind_two (turn_room c.args.bits) v c.args.x c.args.y (c.args.frac - 2) m (2 * c.power-quarter.result - m) e c.if-y-x.true c.rest_of-rest.ensures (omega arith)

pub returns-else-below : goal.returns-else-below
returns-else-below c = λ v is.
    let e = is ∙ ap (λ (b : Bool). with_sign b c.args.x) c.if-below.false in
    ahead_of_none (turn_room c.args.bits) v c.args.x c.args.y (c.args.frac - 2) c.rest_of-rest.result e c.if-y-x.true c.rest_of-rest.ensures

pub returns-then-below-2 : goal.returns-then-below-2
returns-then-below-2 c = λ v is.
    let e = is ∙ ap (λ (b : Bool). with_sign b c.args.x) c.if-below-2.true in
    let m = c.rest_of-rest-else-y-x.result in
    ahead_of_one (turn_room c.args.bits) v c.args.x c.args.y (c.args.frac - 2) m (c.power-quarter.result + m) e (omega arith) c.rest_of-rest-else-y-x.ensures (omega arith)

pub returns-else-below-2 : goal.returns-else-below-2
returns-else-below-2 c = λ v is.
    let e = is ∙ ap (λ (b : Bool). with_sign b c.args.x) c.if-below-2.false in
    let m = c.rest_of-rest-else-y-x.result in
    let small = c.rest_of-rest-else-y-x.ensures.small in
    behind_one (turn_room c.args.bits) v c.args.x c.args.y (c.args.frac - 2) m (c.power-quarter.result - m) e (omega arith) c.rest_of-rest-else-y-x.ensures (omega arith)
