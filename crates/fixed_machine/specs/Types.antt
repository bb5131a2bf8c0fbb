-- The types that a script's text, its answers and its causes name, by one module.
pub use Rattle.fixed_word.specs.declared.rounding.Rounding.{Rounding}
pub use Rattle.fixed_word.specs.declared.rounding.Rounding.TheVariants.{Down, Zero, Even}
pub use Rattle.fixed_text.specs.declared.names.WordName.{WordName}
pub use Rattle.fixed_text.specs.declared.names.WordName.TheVariants.{I8, I16, I32, I64, U8, U16, U32, U64}
pub use Rattle.fixed_script.specs.declared.names.Policy.{Policy}
pub use Rattle.fixed_script.specs.declared.names.Policy.TheVariants.{Checked, Saturating, Wrapping, Overflowing, Strict}
pub use Rattle.fixed_script.specs.declared.names.Op.{Op}
pub use Rattle.fixed_script.specs.declared.names.Op.TheVariants.{Neg, Add, Sub, Mul, Div, Recip, MulAdd, AddProd, MulInt, DivInt, DivEuclid, DivEuclidInt, RemEuclidInt, NextMultipleOf, Dist, Sqrt, Abs, Signum, Rem, RemInt, RemEuclid, NextPowerOfTwo}
pub use Rattle.fixed_text.specs.declared.decimal.Decimal.{Decimal}
pub use Rattle.fixed_script.specs.declared.line.Line.{Line}
pub use Rattle.fixed_script.specs.declared.line.Line.TheVariants.{Set, One, Two, Int, Three}
pub use Rattle.fixed_machine.specs.declared.answer.Answer.{Answer}
pub use Rattle.fixed_machine.specs.declared.answer.Answer.TheVariants.{Absent, Bits, Flagged}
pub use Rattle.fixed_machine.specs.declared.cause.Cause.{Cause}
pub use Rattle.fixed_machine.specs.declared.cause.Cause.TheVariants.{Syntax, OutOfRange, FractionMismatch, ZeroDivisor, NegativeRoot, Overflow}
