use Rattle.fixed_kernel.proofs.Distances.{dist_down, dist_up, less_by}
use Rattle.fixed_kernel.proofs.sums.gap.Goals as goal

pub returns-then-lt : goal.returns-then-lt
returns-then-lt g c =
    let x = g.T.Valued.value c.args.a in
    let y = g.T.Valued.value c.args.b in
    let less = less_by g.T.PartialOrd.partial_cmp c.args.a c.args.b c.lt.result x y (g.met.T.Ordered.partial_order_law c.args.a c.args.b) c.lt.ensures in
    rw (dist_up c.lt.result x y less c.if-lt.true) c.difference-up.ensures.wrapped

pub returns-else-lt : goal.returns-else-lt
returns-else-lt g c =
    let x = g.T.Valued.value c.args.a in
    let y = g.T.Valued.value c.args.b in
    let less = less_by g.T.PartialOrd.partial_cmp c.args.a c.args.b c.lt.result x y (g.met.T.Ordered.partial_order_law c.args.a c.args.b) c.lt.ensures in
    rw (dist_down c.lt.result x y less c.if-lt.false) c.difference-down.ensures.wrapped
