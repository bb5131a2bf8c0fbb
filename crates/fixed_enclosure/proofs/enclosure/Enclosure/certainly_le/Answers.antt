use Rattle.fixed_interval.specs.Ends.{ends_of}
use Rattle.fixed_enclosure.proofs.Each.{all_at_most, through}
use Rattle.fixed_enclosure.proofs.enclosure.Enclosure.certainly_le.Goals as goal

pub returns : goal.returns
returns g c =
    let a = ends_of g.T.Valued.value c.args.self in
    let b = ends_of g.T.Valued.value c.args.other in
    through (rw (c.high.ensures.value, c.low.ensures.value) at c.is_at_most.ensures) (all_at_most a b c.high.ensures.order c.low.ensures.order)
