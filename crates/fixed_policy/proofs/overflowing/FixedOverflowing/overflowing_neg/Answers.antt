use Rattle.fixed_policy.proofs.overflowing.FixedOverflowing.overflowing_neg.Goals as goal

pub returns : goal.returns
returns g c = c.overflowing_number.ensures _ c.neg_of.ensures
