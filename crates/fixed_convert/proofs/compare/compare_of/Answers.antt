use Rattle.std.proofs.Common.{ap, arith, ◌∙◌}
use Rattle.std.specs.Ordering.{ordering_reverse}
use Rattle.fixed_convert.proofs.Orders.{order_at, order_turned}
use Rattle.fixed_convert.proofs.compare.compare_of.Goals as goal

pub returns-then-b_frac-a_frac : goal.returns-then-b_frac-a_frac
returns-then-b_frac-a_frac g c = c.beside.ensures _ c.raised.ensures ∙ order_at (g.A.Valued.value c.args.a) (g.B.Valued.value c.args.b) c.args.a_frac c.args.b_frac c.if-b_frac-a_frac.true

pub returns-else-b_frac-a_frac : goal.returns-else-b_frac-a_frac
returns-else-b_frac-a_frac g c =
    let f = c.args.a_frac in
    let l = c.if-b_frac-a_frac.false in
    c.reverse.ensures ∙ ap ordering_reverse (c.beside-else-b_frac-a_frac.ensures _ c.raised-else-b_frac-a_frac.ensures) ∙ order_turned (g.A.Valued.value c.args.a) (g.B.Valued.value c.args.b) f c.args.b_frac (omega arith)
