use Rattle.fixed_turns.proofs.overflowing.FixedOverflowingTurns.overflowing_sin_cos_turns.Goals as goal

pub returns-clause-sine : goal.returns-clause-sine
returns-clause-sine g c =
    let l = c.sin_cos_turns_of-sine.ensures.sine in
    (l.0, l.1, c.overflowing_number.ensures l.0 l.2)

pub returns-clause-cosine : goal.returns-clause-cosine
returns-clause-cosine g c =
    let l = c.sin_cos_turns_of-sine.ensures.cosine in
    (l.0, l.1, c.overflowing_number-2.ensures l.0 l.2)
