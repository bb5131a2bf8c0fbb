use Rattle.fixed_turns.specs.Sines.{sine_room}
use Rattle.fixed_turns.proofs.RadianSines.{cosine_of, sine_of}
use Rattle.fixed_turns.proofs.radians.sin_cos_of.Goals as goal

pub returns-clause-sine : goal.returns-clause-sine
returns-clause-sine g c =
    let p = c.reduced-angle.result in
    let s = c.outcome_at-sine.ensures in
    (s.0, sine_of (sine_room g.T.Valued.BITS) p.quarter p.rest c.args.frac (g.T.Valued.value c.args.a) s.0 p.below c.reduced-angle.ensures.value s.1, s.2)

pub returns-clause-cosine : goal.returns-clause-cosine
returns-clause-cosine g c =
    let p = c.reduced-angle.result in
    let s = c.outcome_at.ensures in
    (s.0, cosine_of (sine_room g.T.Valued.BITS) p.quarter p.rest c.args.frac (g.T.Valued.value c.args.a) s.0 p.below c.reduced-angle.ensures.value s.1, s.2)
