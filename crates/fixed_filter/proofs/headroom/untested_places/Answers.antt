use Rattle.std.proofs.Common.{ℤ}
use Rattle.fixed_filter.specs.Banks.{places_of}
use Rattle.fixed_filter.proofs.Untested.{untested_where_room}
use Rattle.fixed_filter.proofs.headroom.untested_places.Goals as goal

pub returns : goal.returns
returns g c =
    let number = g.T.Valued.value in
    let left : g.row.A.Denot → ℤ = λ a. number (g.A.Sample.held a) in
    let right : g.row.B.Denot → ℤ = λ b. number (g.B.Sample.held b) in
    untested_where_room left right g.T.RawWord.SIGNED g.T.Valued.BITS c.peak.result c.weight.result (places_of c.args.shape.now) c.args.taps.now c.args.samples.now c.places_with_room.result g.met.T.RawWord.width_law c.peak.ensures.most c.weight.ensures.in_range c.peak.ensures.in_range c.weight.ensures.value c.places_with_room.ensures
