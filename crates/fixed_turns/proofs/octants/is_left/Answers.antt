use Rattle.std.proofs.Common.{◌+◌}
use Rattle.fixed_turns.specs.Series.{cosine_series, sine_series}
use Rattle.fixed_turns.proofs.Sides.{left_by, right_by, tested_left, tested_right}
use Rattle.fixed_turns.proofs.octants.is_left.Goals as goal

pub returns-clause-left : goal.returns-clause-left
returns-clause-left c = λ t y n m u.
    let v = c.cosine.result in
    let h = tested_left c.args.a c.args.b c.sine.result v c.from.result c.from-2.result c.from-3.result c.from.ensures c.from-2.ensures c.from-3.ensures t in
    left_by c.args.bits c.args.a c.args.b c.sine.result v (sine_series y (n + 10)) (cosine_series y (m + 10)) c.requires.octant h (c.sine.ensures.value y n u) (c.cosine.ensures.value y m u)

pub returns-clause-right : goal.returns-clause-right
returns-clause-right c = λ t y n m u.
    let v = c.cosine.result in
    let h = tested_right c.args.a c.args.b c.sine.result v c.from.result c.from-2.result c.from-3.result c.from.ensures c.from-2.ensures c.from-3.ensures t in
    right_by c.args.bits c.args.a c.args.b c.sine.result v (sine_series y (n + 10)) (cosine_series y (m + 10)) c.requires.octant h (c.sine.ensures.value y n u) (c.cosine.ensures.value y m u)
