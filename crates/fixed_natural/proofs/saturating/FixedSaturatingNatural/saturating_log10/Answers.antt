use Rattle.fixed_natural.proofs.saturating.FixedSaturatingNatural.saturating_log10.Goals as goal

pub returns : goal.returns
returns g c =
    let l = c.log10_of.ensures in
    (l.0, l.1, c.saturating_number.ensures l.0 l.2)
