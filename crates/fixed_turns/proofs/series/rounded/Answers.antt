use Rattle.std.proofs.Common.{arith}
use Rattle.fixed_turns.proofs.Sums.{rounded_half}
use Rattle.fixed_turns.proofs.series.rounded.Goals as goal

pub returns-else-shift-eq0 : goal.returns-else-shift-eq0
returns-else-shift-eq0 c = rounded_half c.args.units c.args.shift (omega (arith, c.if-shift-eq0.false))
