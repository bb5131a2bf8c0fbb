use Rattle.fixed_turns.proofs.strict.FixedStrictRadians.strict_sin.Goals as goal

pub returns : goal.returns
returns g c =
    let l = c.sin_of.ensures in
    rw (c.exact_number.ensures l.0 l.2 (c.requires.fits l.0 l.1)) l.1
