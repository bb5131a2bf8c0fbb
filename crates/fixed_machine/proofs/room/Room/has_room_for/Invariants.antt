use Rattle.std.proofs.Common.{◌≡◌, ◌+◌, length}
use Rattle.fixed_machine.proofs.room.Room.has_room_for.Given as goal

abbrev pub invariant-loop-fractions : goal.invariant-loop-fractions
invariant-loop-fractions l = length l.fractions + l.fn.self.register_room ≡ length l.header.fractions + l.left

abbrev pub decreases-loop-fractions : goal.decreases-loop-fractions
decreases-loop-fractions l = length l.fractions
