use Rattle.fixed_convert.proofs.Rounds.{rounded_down, rounded_up}
use Rattle.std.proofs.Common.{arith}
use Rattle.fixed_convert.proofs.convert.convert_round_of.Goals as goal

pub returns-then-from-to : goal.returns-then-from-to
returns-then-from-to g c = rw (rounded_up (g.S.Valued.value c.args.a) c.args.from c.args.to c.args.rounding c.if-from-to.true) c.raised.ensures

pub returns-else-from-to : goal.returns-else-from-to
returns-else-from-to g c =
    let l = c.if-from-to.false in
    rw (rounded_down (g.S.Valued.value c.args.a) c.args.from c.args.to c.args.rounding (omega arith)) c.lowered_round.ensures
