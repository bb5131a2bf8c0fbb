use Rattle.fixed_interval.specs.Ends.{ends_of, magnitude_of}
use Rattle.fixed_interval.specs.Containment.{HoldsMagnitudes}
use Rattle.fixed_interval.proofs.Fitting.{seen, held_some}
use Rattle.fixed_interval.proofs.SignEnds.{distance_from_zero, holds_magnitudes, magnitude_order}
use Rattle.fixed_interval.proofs.signs.abs_in.Goals as goal

pub returns-clause-ends : goal.returns-clause-ends
returns-clause-ends g c =
    let a = ends_of g.T.Valued.value c.args.a.now in
    let zero = g.met.T.RawWord.zero_law in
    c.between.ensures (magnitude_of a)
    (rw (c.ZERO.ensures, zero, distance_from_zero, c.nearest_to_zero.ensures.value) at c.dist_of.ensures)
    (rw (c.ZERO-2.ensures, zero, distance_from_zero, c.farthest_from_zero.ensures) at c.dist_of-2.ensures)
    (magnitude_order a c.nearest_to_zero.ensures.order)

pub returns-clause-holds : goal.returns-clause-holds
returns-clause-holds g c =
    let a = ends_of g.T.Valued.value c.args.a.now in
    seen (ends_of g.T.Valued.value) (HoldsMagnitudes a) c.between.result (held_some (HoldsMagnitudes a) g.T.RawWord.SIGNED g.T.Valued.BITS (magnitude_of a) _ (returns-clause-ends g c) (holds_magnitudes a))
