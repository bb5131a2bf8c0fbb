use Rattle.std.proofs.Common.{◌+◌}
use Rattle.fixed_turns.specs.Sines.{sine_room}
use Rattle.fixed_turns.proofs.Quarters.{angle_of, width_few}
use Rattle.fixed_turns.proofs.Turning.{both_near}
use Rattle.fixed_turns.proofs.sines.sin_cos_turns_of.Goals as goal

pub returns-clause-sine : goal.returns-clause-sine
returns-clause-sine g c =
    let p = c.parted-angle.result in
    let few = width_few g.T.Valued.BITS c.args.frac g.met.T.RawWord.width_law c.requires in
    let a = angle_of (g.T.Valued.value c.args.a) c.args.frac c.part_of_turn.result p.quarter p.rest p.below few c.part_of_turn.ensures c.parted-angle.ensures in
    let s = c.outcome_at-sine.ensures in
    (s.0, record { q = p.quarter; below = p.below; rest = a.x; angle = a.angle; sine = both_near (sine_room g.T.Valued.BITS) p.quarter c.args.frac p.rest a.x c.radians_of-x.result p.below s.0 few a.is c.radians_of-x.ensures.value s.1 }, s.2)

pub returns-clause-cosine : goal.returns-clause-cosine
returns-clause-cosine g c =
    let p = c.parted-angle.result in
    let few = width_few g.T.Valued.BITS c.args.frac g.met.T.RawWord.width_law c.requires in
    let a = angle_of (g.T.Valued.value c.args.a) c.args.frac c.part_of_turn.result p.quarter p.rest p.below few c.part_of_turn.ensures c.parted-angle.ensures in
    let s = c.outcome_at.ensures in
    (s.0, record { q = p.quarter; below = p.below; rest = a.x; angle = a.angle; sine = both_near (sine_room g.T.Valued.BITS) (p.quarter + 1) c.args.frac p.rest a.x c.radians_of-x.result p.below s.0 few a.is c.radians_of-x.ensures.value s.1 }, s.2)
