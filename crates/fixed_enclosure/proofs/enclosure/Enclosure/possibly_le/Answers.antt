use Rattle.fixed_interval.specs.Ends.{ends_of}
use Rattle.fixed_enclosure.proofs.Each.{some_at_most, through}
use Rattle.fixed_enclosure.proofs.enclosure.Enclosure.possibly_le.Goals as goal

pub returns : goal.returns
returns g c =
    let a = ends_of g.T.Valued.value c.args.self in
    let b = ends_of g.T.Valued.value c.args.other in
    through (rw (c.high.ensures.value, c.low.ensures.value) at c.is_at_most.ensures) (some_at_most a b c.low.ensures.order c.high.ensures.order)
