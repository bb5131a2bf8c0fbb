use Rattle.std.proofs.Common.{◌≡◌, ◌%◌}
use Rattle.fixed_turns.specs.Sines.{sine_room}
use Rattle.fixed_turns.proofs.Turning.{cosine_near, sine_near}
use Rattle.fixed_turns.proofs.sines.sine_at.Goals as goal

pub returns-then-quarter-eq0 : goal.returns-then-quarter-eq0
returns-then-quarter-eq0 c =
    let even : c.args.quarter % 2 ≡ 0 = c.if-quarter-eq0.true in
    let t = c.turned in
    sine_near (sine_room c.args.bits) c.args.quarter c.args.frac c.sine_of.result c.args.x c.args.below t.result c.requires.quarter even t.ensures.same t.ensures.other c.sine_of.ensures.none c.sine_of.ensures.value

pub returns-else-quarter-eq0 : goal.returns-else-quarter-eq0
returns-else-quarter-eq0 c =
    let t = c.turned-else-quarter-eq0 in
    cosine_near (sine_room c.args.bits) c.args.quarter c.args.frac c.cosine_of.result c.args.x c.args.below t.result c.requires.quarter c.if-quarter-eq0.false t.ensures.same t.ensures.other c.cosine_of.ensures
