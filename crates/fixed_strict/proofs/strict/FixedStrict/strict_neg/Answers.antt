use Rattle.fixed_strict.proofs.strict.FixedStrict.strict_neg.Goals as goal

pub returns : goal.returns
returns g c = c.exact_number.ensures _ c.neg_of.ensures c.requires
