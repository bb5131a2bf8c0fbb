use Rattle.fixed_strict.proofs.saturating.FixedSaturating.saturating_rem_euclid_int.Goals as goal

pub returns : goal.returns
returns g c = c.saturating_number.ensures _ c.rem_euclid_int_of.ensures
