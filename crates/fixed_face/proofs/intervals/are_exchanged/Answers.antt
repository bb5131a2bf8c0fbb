use Rattle.fixed_kernel.proofs.Distances.{less_by}
use Rattle.fixed_face.proofs.intervals.are_exchanged.Goals as goal

pub returns : goal.returns
returns g c = less_by g.T.PartialOrd.partial_cmp c.args.high c.args.low c.lt.result (g.T.Valued.value c.args.high) (g.T.Valued.value c.args.low) (g.met.T.Ordered.partial_order_law c.args.high c.args.low) c.lt.ensures
