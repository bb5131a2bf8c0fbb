use Rattle.fixed_math.proofs.overflowing.FixedOverflowingMath.overflowing_log2.Goals as goal

pub returns : goal.returns
returns g c =
    let l = c.log2_of.ensures in
    (l.0, l.1, c.overflowing_number.ensures l.0 l.2)
