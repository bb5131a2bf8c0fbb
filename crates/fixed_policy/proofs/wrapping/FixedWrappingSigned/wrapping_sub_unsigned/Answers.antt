use Rattle.fixed_policy.proofs.wrapping.FixedWrappingSigned.wrapping_sub_unsigned.Goals as goal

pub returns : goal.returns
returns g c = c.wrapping_number.ensures _ c.mixed_sub_of.ensures
