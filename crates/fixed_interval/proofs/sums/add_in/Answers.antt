use Rattle.std.proofs.Common.{arith}
use Rattle.std.proofs.lemmas.Int.{ints}
use Rattle.fixed_interval.specs.Ends.{ends_of, sum_of}
use Rattle.fixed_interval.specs.Containment.{HoldsSums}
use Rattle.fixed_interval.proofs.Fitting.{seen, held_some}
use Rattle.fixed_interval.proofs.SumEnds.{holds_sums}
use Rattle.fixed_interval.proofs.sums.add_in.Goals as goal

pub returns-clause-ends : goal.returns-clause-ends
returns-clause-ends g c = c.between.ensures (sum_of (ends_of g.T.Valued.value c.args.a.now) (ends_of g.T.Valued.value c.args.b.now)) (rw (c.lo.ensures.value, c.lo-2.ensures.value) at c.add_of.ensures) (rw (c.hi.ensures.value, c.hi-2.ensures.value) at c.add_of-2.ensures) (omega (arith, ints))

pub returns-clause-holds : goal.returns-clause-holds
returns-clause-holds g c = seen (ends_of g.T.Valued.value) (HoldsSums (ends_of g.T.Valued.value c.args.a.now) (ends_of g.T.Valued.value c.args.b.now)) c.between.result (held_some (HoldsSums (ends_of g.T.Valued.value c.args.a.now) (ends_of g.T.Valued.value c.args.b.now)) g.T.RawWord.SIGNED g.T.Valued.BITS (sum_of (ends_of g.T.Valued.value c.args.a.now) (ends_of g.T.Valued.value c.args.b.now)) _ (returns-clause-ends g c) (holds_sums (ends_of g.T.Valued.value c.args.a.now) (ends_of g.T.Valued.value c.args.b.now)))
