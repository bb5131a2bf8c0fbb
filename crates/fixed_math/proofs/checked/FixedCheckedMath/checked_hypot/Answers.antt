use Rattle.fixed_math.proofs.checked.FixedCheckedMath.checked_hypot.Goals as goal

pub returns : goal.returns
returns g c = c.checked_number.ensures _ c.hypot_of.ensures
