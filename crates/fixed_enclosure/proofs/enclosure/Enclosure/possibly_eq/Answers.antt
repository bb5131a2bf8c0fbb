use Rattle.fixed_interval.specs.Ends.{ends_of}
use Rattle.fixed_enclosure.proofs.Each.{both, some_equal, through}
use Rattle.fixed_enclosure.proofs.enclosure.Enclosure.possibly_eq.Goals as goal

pub returns : goal.returns
returns g c =
    let a = ends_of g.T.Valued.value c.args.self in
    let b = ends_of g.T.Valued.value c.args.other in
    through (both _ _ (rw (c.low.ensures.value, c.high.ensures.value) at c.is_at_most.ensures) (rw (c.low-2.ensures.value, c.high-2.ensures.value) at c.is_at_most-2.ensures)) (some_equal a b c.low.ensures.order c.high.ensures.order)
