use Rattle.fixed_cast.proofs.mul_into.product.Goals as goal

pub mul_into_of-requires-clause-a_frac : goal.mul_into_of-requires-clause-a_frac
mul_into_of-requires-clause-a_frac g c = rw c.FRACTION.ensures c.requires.fraction

pub mul_into_of-requires-clause-b_frac : goal.mul_into_of-requires-clause-b_frac
mul_into_of-requires-clause-b_frac g c = rw c.FRACTION-2.ensures c.requires.rhs_fraction

pub returns : goal.returns
returns g c = rw (c.to_word.ensures, c.FRACTION.ensures, c.to_word-2.ensures, c.FRACTION-2.ensures, c.FRACTION-3.ensures) at c.mul_into_of.ensures
