use Rattle.std.proofs.Common.{ℤ}
use Rattle.fixed_filter.specs.Banks.{places_of}
use Rattle.fixed_filter.specs.Blocks.{reply_to}
use Rattle.fixed_filter.proofs.Blocks.{IsAfter}
use Rattle.fixed_filter.proofs.block.outputs.Given as goal

abbrev pub invariant-loop-i : goal.invariant-loop-i
invariant-loop-i g l =
    let number = g.T.Valued.value in
    let left : g.row.A.Denot → ℤ = λ a. number (g.A.Sample.held a) in
    let right : g.row.B.Denot → ℤ = λ b. number (g.B.Sample.held b) in
    let out : g.row.C.Denot → ℤ = λ c. number (g.C.Sample.held c) in
    IsAfter (reply_to left right g.T.RawWord.SIGNED g.T.Valued.BITS (places_of l.shape) l.taps) out l.initial.past l.input l.initial.output l.past l.output l.i
