use Rattle.fixed_turns.proofs.saturating.FixedSaturatingRadians.saturating_atan2.Goals as goal

pub returns : goal.returns
returns g c =
    let l = c.atan2_of.ensures in
    (l.0, l.1, c.saturating_number.ensures l.0 l.2)
