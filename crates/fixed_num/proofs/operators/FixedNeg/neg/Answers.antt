use Rattle.fixed_num.proofs.operators.FixedNeg.neg.Goals as goal

pub returns : goal.returns
returns g c = c.exact_number.ensures _ c.neg_of.ensures c.requires
