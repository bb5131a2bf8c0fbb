use Rattle.fixed_math.proofs.strict.FixedStrictMath.strict_hypot.Goals as goal

pub returns : goal.returns
returns g c = c.exact_number.ensures _ c.hypot_of.ensures c.requires
