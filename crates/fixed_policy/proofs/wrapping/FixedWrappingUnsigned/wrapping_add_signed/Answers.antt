use Rattle.fixed_policy.proofs.wrapping.FixedWrappingUnsigned.wrapping_add_signed.Goals as goal

pub returns : goal.returns
returns g c = c.wrapping_number.ensures _ c.mixed_add_of.ensures
