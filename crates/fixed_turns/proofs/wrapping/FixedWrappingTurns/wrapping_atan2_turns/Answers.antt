use Rattle.fixed_turns.proofs.wrapping.FixedWrappingTurns.wrapping_atan2_turns.Goals as goal

pub returns : goal.returns
returns g c =
    let l = c.atan2_turns_of.ensures in
    (l.0, l.1, c.wrapping_number.ensures l.0 l.2)
