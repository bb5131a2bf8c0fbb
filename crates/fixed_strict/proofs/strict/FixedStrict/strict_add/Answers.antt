use Rattle.fixed_strict.proofs.strict.FixedStrict.strict_add.Goals as goal

pub returns : goal.returns
returns g c = c.exact_number.ensures _ c.add_of.ensures c.requires
