use Rattle.std.proofs.Common.{ℕ, pos, subst}
use Rattle.fixed_word.specs.Format.{with_sign}
use Rattle.fixed_turns.specs.RadianAngles.{IsUpperRadians}
use Rattle.fixed_turns.specs.Sines.{sine_room}
use Rattle.fixed_turns.proofs.Bisected.{angle_by}
use Rattle.fixed_turns.proofs.Coordinates.{signed}
use Rattle.fixed_turns.proofs.directions.atan2_of.Goals as goal

pub returns : goal.returns
returns g c =
    let x = g.T.Valued.value c.args.x in
    let y = g.T.Valued.value c.args.y in
    let m = c.upper_angle.result in
    let a = c.magnitude-2.result in
    let right = signed x c.is_below_zero.result c.magnitude.result c.is_below_zero.ensures.sign.0 c.is_below_zero.ensures.sign.1 c.magnitude.ensures.magnitude in
    let above = signed y c.is_below_zero-2.result a c.is_below_zero-2.ensures.sign.0 c.is_below_zero-2.ensures.sign.1 c.magnitude-2.ensures.magnitude in
    let h = subst (λ (j : ℕ). IsUpperRadians (sine_room j) x (pos a) c.args.frac m) c.BITS.ensures (c.upper_angle.ensures x right.0 right.1) in
    (with_sign c.is_below_zero-2.result m, angle_by (sine_room g.T.Valued.BITS) x y c.args.frac a m c.is_below_zero-2.result h c.magnitude-2.ensures.magnitude above.1, c.outcome_of_magnitude.ensures)
