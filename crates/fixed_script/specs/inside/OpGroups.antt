-- The operations in the order of their names, in groups that are searched one after another.
use Rattle.std.specs.Prelude.{List, [], ◌∷◌}
use Rattle.fixed_script.specs.declared.names.Op.{Op}
use Rattle.fixed_script.specs.declared.names.Op.TheVariants.{Neg, Add, Sub, Mul, Div, Recip, MulAdd, AddProd, MulInt, DivInt, DivEuclid, DivEuclidInt, RemEuclidInt, NextMultipleOf, Dist, Sqrt, Abs, Signum, Rem, RemInt, RemEuclid, NextPowerOfTwo}

abbrev pub arithmetic_ops : List Op
arithmetic_ops = Neg ∷ Add ∷ Sub ∷ Mul ∷ Div ∷ Recip ∷ MulAdd ∷ AddProd ∷ []

abbrev pub whole_ops : List Op
whole_ops = MulInt ∷ DivInt ∷ DivEuclid ∷ DivEuclidInt ∷ RemEuclidInt ∷ NextMultipleOf ∷ []

abbrev pub other_ops : List Op
other_ops = Dist ∷ Sqrt ∷ Abs ∷ Signum ∷ Rem ∷ RemInt ∷ RemEuclid ∷ NextPowerOfTwo ∷ []
