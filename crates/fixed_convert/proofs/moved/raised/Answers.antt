use Rattle.std.proofs.Common.{arith}
use Rattle.fixed_convert.proofs.Cuts.{read_back}
use Rattle.fixed_convert.proofs.Rooms.{raised_room, small, width_most}
use Rattle.fixed_convert.proofs.moved.raised.Goals as goal

pub scaled-requires-clause-room : goal.scaled-requires-clause-room
scaled-requires-clause-room g c =
    let x = g.S.Valued.value c.args.a in
    let l = width_most g.T.Valued.BITS g.met.T.RawWord.width_law in
    let s = small g.S.RawWord.SIGNED g.S.Valued.BITS x g.met.S.RawWord.width_law c.to_wide.ensures.in_range in
    rw (read_back c.to_wide.result x (record { sfits = c.to_wide.type_inv }) c.to_wide.ensures.value) (raised_room x c.args.by s (omega arith))
