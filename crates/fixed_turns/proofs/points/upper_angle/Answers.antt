use Rattle.std.proofs.Common.{arith}
use Rattle.fixed_turns.specs.Angles.{turn_room}
use Rattle.fixed_turns.proofs.Coordinates.{half_turns, no_angle, parts_of_turns}
use Rattle.fixed_turns.proofs.points.upper_angle.Goals as goal

pub returns-then-frac-eq0 : goal.returns-then-frac-eq0
returns-then-frac-eq0 c = λ v is sign. no_angle (turn_room c.args.bits) v c.args.y c.args.frac c.if-frac-eq0.true

pub returns-then-frac-eq1 : goal.returns-then-frac-eq1
returns-then-frac-eq1 c = λ v is sign. half_turns (turn_room c.args.bits) v c.args.y c.args.frac c.from.result c.args.below c.if-frac-eq1.true sign c.from.ensures

pub returns-else-frac-eq1 : goal.returns-else-frac-eq1
returns-else-frac-eq1 c = λ v is sign. parts_of_turns (turn_room c.args.bits) v c.args.y c.args.frac c.by_quarters.result (omega arith) (c.by_quarters.ensures v is)
