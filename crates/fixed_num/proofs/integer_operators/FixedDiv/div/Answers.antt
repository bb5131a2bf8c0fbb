use Rattle.fixed_num.proofs.integer_operators.FixedDiv.div.Goals as goal

pub returns : goal.returns
returns g c = c.exact_number.ensures _ c.div_int_of.ensures c.requires.1
