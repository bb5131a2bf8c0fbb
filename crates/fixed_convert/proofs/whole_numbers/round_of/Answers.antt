use Rattle.std.proofs.Common.{arith}
use Rattle.fixed_convert.proofs.Cuts.{read_back}
use Rattle.fixed_convert.proofs.Rooms.{small, width_most}
use Rattle.fixed_convert.proofs.whole_numbers.round_of.Goals as goal

pub round_at-requires-clause-by : goal.round_at-requires-clause-by
round_at-requires-clause-by g c =
    let l = width_most g.T.Valued.BITS g.met.T.RawWord.width_law in
    let f = c.requires in
    omega arith

pub round_at-requires-clause-small : goal.round_at-requires-clause-small
round_at-requires-clause-small g c =
    let x = g.T.Valued.value c.args.a in
    rw (read_back c.to_wide.result x (record { sfits = c.to_wide.type_inv }) c.to_wide.ensures.value) (small g.T.RawWord.SIGNED g.T.Valued.BITS x g.met.T.RawWord.width_law c.to_wide.ensures.in_range)
