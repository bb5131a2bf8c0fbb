use Rattle.fixed_turns.specs.Sines.{sine_room}
use Rattle.fixed_turns.proofs.Bisected.{search_down, search_up}
use Rattle.fixed_turns.proofs.directions.nearest.Goals as goal
use Rattle.fixed_turns.proofs.directions.nearest.Goals.{else-is_left, then-is_left}

pub loop-low-preserved : goal.loop-low-preserved
loop-low-preserved c =
    let k = sine_room c.args.bits in
    let point = c.args.point in
    let u = c.probe-units.result in
    let d = c.direction in
    elim c.if-is_left.branch [
      | then-is_left w ↦
          rw (w.low-is, w.high-is) (search_up k point.left point.x point.y c.args.frac c.loop-low.low c.loop-low.high u d.result c.requires c.loop-low.invariant c.probe-units.ensures.most d.ensures.least d.ensures.most (c.is_left.ensures.left w.if-is_left.true))
      | else-is_left w ↦
          rw (w.low-is, w.high-is) (search_down k point.left point.x point.y c.args.frac c.loop-low.low c.loop-low.high u d.result c.requires c.loop-low.invariant c.probe-units.ensures.least c.probe-units.ensures.most d.ensures.least d.ensures.most (c.is_left.ensures.right w.if-is_left.false))
    ]
