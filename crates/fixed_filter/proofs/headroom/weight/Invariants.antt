use Rattle.std.proofs.Common.{ℤ}
use Rattle.fixed_filter.proofs.Untested.{IsWeighed}
use Rattle.fixed_filter.proofs.headroom.weight.Given as goal

abbrev pub invariant-loop-i : goal.invariant-loop-i
invariant-loop-i g l =
    let number = g.T.Valued.value in
    let value : g.row.A.Denot → ℤ = λ x. number (g.A.Sample.held x) in
    IsWeighed value g.T.RawWord.SIGNED g.T.Valued.BITS l.taps l.i l.sum
