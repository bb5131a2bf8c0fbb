use Rattle.fixed_strict.proofs.saturating.FixedSaturating.saturating_mul_int.Goals as goal

pub returns : goal.returns
returns g c = c.held_number.ensures _ c.mul_int_of.ensures
