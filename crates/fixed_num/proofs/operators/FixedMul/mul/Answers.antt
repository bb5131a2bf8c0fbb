use Rattle.fixed_num.proofs.operators.FixedMul.mul.Goals as goal

pub returns : goal.returns
returns g c = c.exact_number.ensures _ c.mul_of.ensures c.requires.1
