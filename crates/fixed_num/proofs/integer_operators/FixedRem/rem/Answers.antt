use Rattle.fixed_num.proofs.integer_operators.FixedRem.rem.Goals as goal

pub returns : goal.returns
returns g c = c.exact_number.ensures _ c.rem_int_of.ensures c.requires.2
