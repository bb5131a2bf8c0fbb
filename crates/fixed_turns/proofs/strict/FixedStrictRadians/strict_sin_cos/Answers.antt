use Rattle.fixed_turns.proofs.strict.FixedStrictRadians.strict_sin_cos.Goals as goal

pub returns-clause-sine : goal.returns-clause-sine
returns-clause-sine g c =
    let l = c.sin_cos_of-sine.ensures.sine in
    rw (c.exact_number.ensures l.0 l.2 (c.requires.sine l.0 l.1)) l.1

pub returns-clause-cosine : goal.returns-clause-cosine
returns-clause-cosine g c =
    let l = c.sin_cos_of-sine.ensures.cosine in
    rw (c.exact_number-2.ensures l.0 l.2 (c.requires.cosine l.0 l.1)) l.1
