use Rattle.std.proofs.Common.{arith}
use Rattle.std.proofs.lemmas.Int.{ints}
use Rattle.fixed_interval.specs.Ends.{ends_of, negation_of}
use Rattle.fixed_interval.specs.Containment.{HoldsNegations}
use Rattle.fixed_interval.proofs.Fitting.{seen, held_some}
use Rattle.fixed_interval.proofs.SignEnds.{holds_negations}
use Rattle.fixed_interval.proofs.signs.neg_in.Goals as goal

pub returns-clause-ends : goal.returns-clause-ends
returns-clause-ends g c =
    let a = ends_of g.T.Valued.value c.args.a.now in
    c.between.ensures (negation_of a) (rw c.hi.ensures.value at c.neg_of.ensures) (rw c.lo.ensures.value at c.neg_of-2.ensures) (omega (arith, ints))

pub returns-clause-holds : goal.returns-clause-holds
returns-clause-holds g c =
    let a = ends_of g.T.Valued.value c.args.a.now in
    seen (ends_of g.T.Valued.value) (HoldsNegations a) c.between.result (held_some (HoldsNegations a) g.T.RawWord.SIGNED g.T.Valued.BITS (negation_of a) _ (returns-clause-ends g c) (holds_negations a))
