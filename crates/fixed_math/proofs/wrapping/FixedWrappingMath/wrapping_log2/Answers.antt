use Rattle.fixed_math.proofs.wrapping.FixedWrappingMath.wrapping_log2.Goals as goal

pub returns : goal.returns
returns g c =
    let l = c.log2_of.ensures in
    (l.0, l.1, c.wrapping_number.ensures l.0 l.2)
