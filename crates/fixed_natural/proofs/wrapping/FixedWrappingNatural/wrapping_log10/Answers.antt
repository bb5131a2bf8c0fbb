use Rattle.fixed_natural.proofs.wrapping.FixedWrappingNatural.wrapping_log10.Goals as goal

pub returns : goal.returns
returns g c =
    let l = c.log10_of.ensures in
    (l.0, l.1, c.wrapping_number.ensures l.0 l.2)
