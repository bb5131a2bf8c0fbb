use Rattle.std.proofs.Common.{arith}
use Rattle.fixed_kernel.proofs.Alikes.{width_at_most}
use Rattle.fixed_decimal.proofs.Exact.{exact_least}
use Rattle.fixed_decimal.proofs.places.exact_places.Goals as goal

pub returns-clause-places : goal.returns-clause-places
returns-clause-places g c = exact_least (g.T.Valued.value c.args.number) c.magnitude-zeros.result c.args.frac c.min.result c.magnitude-zeros.ensures.magnitude (omega (arith, c.requires, width_at_most g.T.Valued.BITS g.met.T.RawWord.width_law)) c.min.ensures
