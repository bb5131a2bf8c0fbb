use Rattle.std.proofs.Common.{◌≡◌, take, replicate}
use Rattle.fixed_filter.proofs.fir.clear.Given as goal

abbrev pub invariant-loop-i : goal.invariant-loop-i
invariant-loop-i g l = take l.i l.past ≡ replicate l.i (record { bits = g.T.RawWord.ZERO })
