use Rattle.std.proofs.Common.{◌≤◌, length, ◌-◌}
use Rattle.fixed_machine.specs.inside.Moves.{HaveMoved}
use Rattle.fixed_machine.specs.Rooms.{KeepsRoom}
use Rattle.fixed_machine.proofs.room_run.answer_quick_lines.Given as goal

-- the lines up to here have moved
abbrev pub invariant-loop-at : goal.invariant-loop-at
invariant-loop-at g l =
    record {
      moved : HaveMoved l.fn.word l.lines l.fn.from l.fn.first l.at l.number l.fn.room l.room;
      count : l.count ≤ length l.room.registers;
      few : l.count ≤ 100;
      kept : KeepsRoom l.fn.room l.room;
    }

abbrev pub decreases-loop-at : goal.decreases-loop-at
decreases-loop-at g l = length l.lines - l.at
