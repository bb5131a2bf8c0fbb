use Rattle.std.proofs.Common.{◌-◌}
use Rattle.fixed_turns.specs.Sines.{sine_room}
use Rattle.fixed_turns.proofs.Bisected.{IsSearch}
use Rattle.fixed_turns.proofs.directions.nearest.Given as goal

abbrev pub invariant-loop-low : goal.invariant-loop-low
invariant-loop-low l = IsSearch (sine_room l.bits) l.point.left l.point.x l.point.y l.frac l.low l.high

abbrev pub decreases-loop-low : goal.decreases-loop-low
decreases-loop-low l = l.high - l.low
