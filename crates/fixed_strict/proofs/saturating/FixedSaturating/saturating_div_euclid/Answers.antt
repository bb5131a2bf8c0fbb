use Rattle.fixed_strict.proofs.saturating.FixedSaturating.saturating_div_euclid.Goals as goal

pub returns : goal.returns
returns g c = c.saturating_number.ensures _ c.div_euclid_of.ensures
