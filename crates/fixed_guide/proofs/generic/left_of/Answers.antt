use Rattle.std.proofs.Common.{◌≤ℤ◌, option_map}
use Rattle.fixed_guide.proofs.Partials.{from_zero, not_less}
use Rattle.fixed_guide.proofs.generic.left_of.Goals as goal

pub returns : goal.returns
returns g c =
    let number = g.N.Held.number in
    let x = number c.args.stock in
    let y = number c.args.taken in
    let order = g.met.N.Number.partial_order_law c.args.stock c.args.taken in
    let least : y ≤ℤ x =
    not_less g.N.PartialOrd.partial_cmp c.args.stock c.args.taken c.lt.result x y order c.lt.ensures c.if-lt.false in
    from_zero g.N.Number.SIGNED g.N.Number.BITS x y (option_map number c.checked_sub.result) least c.checked_sub.ensures
