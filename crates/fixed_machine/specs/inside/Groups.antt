-- The operations, by the operands that decide whether their row is defined.
use Rattle.fixed_script.specs.declared.names.Op.{Op}
use Rattle.fixed_script.specs.declared.names.Op.TheVariants.{Neg, Add, Sub, Mul, Div, Recip, MulAdd, AddProd, MulInt, DivInt, DivEuclid, DivEuclidInt, RemEuclidInt, NextMultipleOf, Dist, Sqrt, Abs, Signum, Rem, RemInt, RemEuclid, NextPowerOfTwo}
pub use Rattle.fixed_machine.specs.declared.rows.Group.{Group}
pub use Rattle.fixed_machine.specs.declared.rows.Group.TheVariants.{OfOne, SumOrProduct, ByDivisor}

abbrev pub group : Op → Group
group Neg = OfOne
group Add = SumOrProduct
group Sub = SumOrProduct
group Mul = SumOrProduct
group Div = ByDivisor
group Recip = OfOne
group MulAdd = SumOrProduct
group AddProd = SumOrProduct
group MulInt = SumOrProduct
group DivInt = ByDivisor
group DivEuclid = ByDivisor
group DivEuclidInt = ByDivisor
group RemEuclidInt = ByDivisor
group NextMultipleOf = ByDivisor
group Dist = SumOrProduct
group Sqrt = OfOne
group Abs = OfOne
group Signum = OfOne
group Rem = ByDivisor
group RemInt = ByDivisor
group RemEuclid = ByDivisor
group NextPowerOfTwo = OfOne
