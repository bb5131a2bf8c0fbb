use Rattle.fixed_interval.specs.Ends.{ends_of}
use Rattle.fixed_enclosure.proofs.Each.{all_equal, both, through}
use Rattle.fixed_enclosure.proofs.enclosure.Enclosure.certainly_eq.Goals as goal

pub returns : goal.returns
returns g c =
    let a = ends_of g.T.Valued.value c.args.self in
    let b = ends_of g.T.Valued.value c.args.other in
    through (both _ _ (rw (c.high.ensures.value, c.low.ensures.value) at c.is_at_most.ensures) (rw (c.high-2.ensures.value, c.low-2.ensures.value) at c.is_at_most-2.ensures)) (all_equal a b c.high.ensures.order c.low.ensures.order)
