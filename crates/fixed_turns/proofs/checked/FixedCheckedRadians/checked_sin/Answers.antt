use Rattle.fixed_turns.proofs.checked.FixedCheckedRadians.checked_sin.Goals as goal

pub returns : goal.returns
returns g c =
    let l = c.sin_of.ensures in
    (l.0, l.1, c.checked_number.ensures l.0 l.2)
