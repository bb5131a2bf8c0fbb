use Rattle.fixed_turns.proofs.overflowing.FixedOverflowingRadians.overflowing_cos.Goals as goal

pub returns : goal.returns
returns g c =
    let l = c.cos_of.ensures in
    (l.0, l.1, c.overflowing_number.ensures l.0 l.2)
