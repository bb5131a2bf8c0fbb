use Rattle.std.proofs.Common.{arith, ◌∙◌}
use Rattle.std.proofs.lemmas.Int.{ints}
use Rattle.fixed_enclosure.proofs.Each.{distance_up}
use Rattle.fixed_enclosure.proofs.enclosure.Enclosure.width.Goals as goal

pub returns : goal.returns
returns g c = rw (c.high.ensures.value, c.low.ensures.value) at c.abs_diff.ensures ∙ distance_up _ _ c.high.ensures.order
