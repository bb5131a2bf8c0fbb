use Rattle.std.proofs.Common.{ℤ}
use Rattle.fixed_filter.proofs.Untested.{IsPeak}
use Rattle.fixed_filter.proofs.headroom.peak.Given as goal

abbrev pub invariant-loop-i : goal.invariant-loop-i
invariant-loop-i g l =
    let number = g.T.Valued.value in
    let value : g.row.B.Denot → ℤ = λ x. number (g.B.Sample.held x) in
    IsPeak value g.T.RawWord.SIGNED g.T.Valued.BITS l.samples l.i l.most
