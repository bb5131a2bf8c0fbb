use Rattle.fixed_convert.proofs.Rounds.{rounded_down, rounded_up}
use Rattle.std.proofs.Common.{◌-◌, ◌^◌, ◌*ℤ◌, pos, arith}
use Rattle.fixed_convert.proofs.convert.saturating_convert_of.Goals as goal

pub returns-then-from-to : goal.returns-then-from-to
returns-then-from-to g c =
    let a = g.S.Valued.value c.args.a in
    rw (rounded_up a c.args.from c.args.to c.args.rounding c.if-from-to.true) (c.nearest_of.ensures (a *ℤ pos (2 ^ (c.args.to - c.args.from))) c.raised.ensures)

pub returns-else-from-to : goal.returns-else-from-to
returns-else-from-to g c =
    let l = c.if-from-to.false in
    rw (rounded_down (g.S.Valued.value c.args.a) c.args.from c.args.to c.args.rounding (omega arith)) c.lowered_clamped.ensures
