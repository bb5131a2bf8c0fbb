use Rattle.fixed_turns.proofs.wrapping.FixedWrappingRadians.wrapping_atan2.Goals as goal

pub returns : goal.returns
returns g c =
    let l = c.atan2_of.ensures in
    (l.0, l.1, c.wrapping_number.ensures l.0 l.2)
