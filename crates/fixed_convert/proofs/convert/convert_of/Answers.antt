use Rattle.fixed_convert.proofs.Moves.{floor_down, floor_up}
use Rattle.std.proofs.Common.{arith}
use Rattle.fixed_convert.proofs.convert.convert_of.Goals as goal

pub returns-then-from-to : goal.returns-then-from-to
returns-then-from-to g c = rw (floor_up (g.S.Valued.value c.args.a) c.args.from c.args.to c.if-from-to.true) c.raised.ensures

pub returns-else-from-to : goal.returns-else-from-to
returns-else-from-to g c =
    let l = c.if-from-to.false in
    rw (floor_down (g.S.Valued.value c.args.a) c.args.from c.args.to (omega arith)) c.lowered.ensures
