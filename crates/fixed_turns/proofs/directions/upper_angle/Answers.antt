use Rattle.fixed_turns.specs.Sines.{sine_room}
use Rattle.fixed_turns.proofs.Beside.{is_off, not_left}
use Rattle.fixed_turns.proofs.Bisected.{on_axis}
use Rattle.fixed_turns.proofs.directions.upper_angle.Goals as goal

pub returns-then-not-point : goal.returns-then-not-point
returns-then-not-point c = λ v e b.
    let point = c.args.point in
    on_axis (sine_room c.args.bits) point.x point.y c.args.frac v c.if-point-eq0.true (not_left point.x point.left v (is_off point.left c.if-not-point.true) e)
