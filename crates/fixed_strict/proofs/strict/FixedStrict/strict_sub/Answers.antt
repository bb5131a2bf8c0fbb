use Rattle.fixed_strict.proofs.strict.FixedStrict.strict_sub.Goals as goal

pub returns : goal.returns
returns g c = c.exact_number.ensures _ c.sub_of.ensures c.requires
