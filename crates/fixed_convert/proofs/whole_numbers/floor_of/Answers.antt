use Rattle.std.proofs.Common.{arith}
use Rattle.fixed_convert.proofs.Cuts.{read_back}
use Rattle.fixed_convert.proofs.Rooms.{small, width_most}
use Rattle.fixed_convert.proofs.whole_numbers.floor_of.Goals as goal

pub floor_at-requires-clause-by : goal.floor_at-requires-clause-by
floor_at-requires-clause-by g c =
    let l = width_most g.T.Valued.BITS g.met.T.RawWord.width_law in
    let f = c.requires in
    omega arith

pub floor_at-requires-clause-small : goal.floor_at-requires-clause-small
floor_at-requires-clause-small g c =
    let x = g.T.Valued.value c.args.a in
    rw (read_back c.to_wide.result x (record { sfits = c.to_wide.type_inv }) c.to_wide.ensures.value) (small g.T.RawWord.SIGNED g.T.Valued.BITS x g.met.T.RawWord.width_law c.to_wide.ensures.in_range)
