use Rattle.std.proofs.Common.{◌-◌}
use Rattle.fixed_turns.specs.Angles.{turn_room}
use Rattle.fixed_turns.proofs.Sides.{IsSearch}
use Rattle.fixed_turns.proofs.octants.nearest.Given as goal

abbrev pub invariant-loop-low : goal.invariant-loop-low
invariant-loop-low l = IsSearch (turn_room l.bits) l.a l.b (l.frac - 2) l.low l.high

abbrev pub decreases-loop-low : goal.decreases-loop-low
decreases-loop-low l = l.high - l.low
