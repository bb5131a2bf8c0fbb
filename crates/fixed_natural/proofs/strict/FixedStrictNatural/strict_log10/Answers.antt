use Rattle.fixed_natural.proofs.strict.FixedStrictNatural.strict_log10.Goals as goal

pub returns : goal.returns
returns g c =
    let l = c.log10_of.ensures in
    rw (c.exact_number.ensures l.0 l.2 (c.requires.fits l.0 l.1)) l.1
