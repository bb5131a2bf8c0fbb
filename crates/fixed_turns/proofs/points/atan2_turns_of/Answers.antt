use Rattle.std.proofs.Common.{ℕ, subst}
use Rattle.fixed_word.specs.Format.{with_sign}
use Rattle.fixed_turns.specs.Angles.{IsUpperAngle, turn_room}
use Rattle.fixed_turns.proofs.Coordinates.{angle_by, signed}
use Rattle.fixed_turns.proofs.points.atan2_turns_of.Goals as goal

pub returns : goal.returns
returns g c =
    let x = g.T.Valued.value c.args.x in
    let y = g.T.Valued.value c.args.y in
    let n = g.T.Valued.BITS in
    let m = c.upper_angle-magnitude.result in
    let a = c.magnitude-2.result in
    let right = signed x c.is_below_zero.result c.magnitude.result c.is_below_zero.ensures.sign.0 c.is_below_zero.ensures.sign.1 c.magnitude.ensures.magnitude in
    let above = signed y c.is_below_zero-2.result a c.is_below_zero-2.ensures.sign.0 c.is_below_zero-2.ensures.sign.1 c.magnitude-2.ensures.magnitude in
    let h = subst (λ (j : ℕ). IsUpperAngle (turn_room j) x a c.args.frac m) c.BITS.ensures (c.upper_angle-magnitude.ensures x right.0 right.1) in
    (with_sign c.is_below_zero-2.result c.from.result, angle_by (turn_room n) x y c.args.frac a m c.from.result c.is_below_zero-2.result h c.magnitude-2.ensures.magnitude above.1 c.from.ensures, c.outcome_of_magnitude.ensures)
