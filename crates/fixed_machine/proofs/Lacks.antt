-- The text of a line has no newline.
use Rattle.std.proofs.Common.{◌≡◌, true, ◌++◌, Option, Some, None, refl}
use Rattle.std.specs.List.{list_all}
use Rattle.std.specs.Cmp.Derive.{both_true}
use Rattle.fixed_word.specs.declared.rounding.Rounding.{Rounding}
use Rattle.fixed_word.specs.declared.rounding.Rounding.TheVariants.{Down, Zero, Even}
use Rattle.fixed_script.specs.declared.names.Policy.{Policy}
use Rattle.fixed_script.specs.declared.names.Policy.TheVariants.{Checked, Saturating, Wrapping, Overflowing, Strict}
use Rattle.fixed_script.specs.declared.names.Op.{Op}
use Rattle.fixed_script.specs.declared.names.Op.TheVariants.{Neg, Add, Sub, Mul, Div, Recip, MulAdd, AddProd, MulInt, DivInt, DivEuclid, DivEuclidInt, RemEuclidInt, NextMultipleOf, Dist, Sqrt, Abs, Signum, Rem, RemInt, RemEuclid, NextPowerOfTwo}
use Rattle.fixed_script.specs.Names.{policy_name, op_name}
use Rattle.fixed_script.specs.Text.{ScriptLine, SetTo, Apply, Operands, OneRegister, TwoRegisters, RegisterAndInt, ThreeRegisters, operand_tokens, line_tokens, line_text}
use Rattle.fixed_script.proofs.RoundingTokens.{rounding_tokens}
use Rattle.fixed_digits.proofs.Lacking.{lacks, natural_lacks, whole_lacks, joined_lack}

policy_lacks : (p : Policy) → lacks 10 (policy_name p) ≡ true
policy_lacks Checked = refl
policy_lacks Saturating = refl
policy_lacks Wrapping = refl
policy_lacks Overflowing = refl
policy_lacks Strict = refl

op_lacks : (o : Op) → lacks 10 (op_name o) ≡ true
op_lacks Neg = refl
op_lacks Add = refl
op_lacks Sub = refl
op_lacks Mul = refl
op_lacks Div = refl
op_lacks Recip = refl
op_lacks MulAdd = refl
op_lacks AddProd = refl
op_lacks MulInt = refl
op_lacks DivInt = refl
op_lacks DivEuclid = refl
op_lacks DivEuclidInt = refl
op_lacks RemEuclidInt = refl
op_lacks NextMultipleOf = refl
op_lacks Dist = refl
op_lacks Sqrt = refl
op_lacks Abs = refl
op_lacks Signum = refl
op_lacks Rem = refl
op_lacks RemInt = refl
op_lacks RemEuclid = refl
op_lacks NextPowerOfTwo = refl

rounding_lacks : (r : Option Rounding) → list_all (lacks 10) (rounding_tokens r) ≡ true
rounding_lacks None = refl
rounding_lacks (Some Down) = refl
rounding_lacks (Some Zero) = refl
rounding_lacks (Some Even) = refl

operands_lack : (xs : Operands) (r : Option Rounding) → list_all (lacks 10) (operand_tokens xs ++ rounding_tokens r) ≡ true
operands_lack (OneRegister a) r = both_true (natural_lacks 10 a refl) (rounding_lacks r)
operands_lack (TwoRegisters a b) r = both_true (natural_lacks 10 a refl) (both_true (natural_lacks 10 b refl) (rounding_lacks r))
operands_lack (RegisterAndInt a k) r = both_true (natural_lacks 10 a refl) (both_true (whole_lacks 10 k refl refl) (rounding_lacks r))
operands_lack (ThreeRegisters a b c) r = both_true (natural_lacks 10 a refl) (both_true (natural_lacks 10 b refl) (both_true (natural_lacks 10 c refl) (rounding_lacks r)))

pub line_lacks : (l : ScriptLine) → lacks 10 (line_text l) ≡ true
line_lacks (SetTo dest k) = joined_lack (line_tokens (SetTo dest k)) (both_true (natural_lacks 10 dest refl) (both_true (whole_lacks 10 k refl refl) refl))
line_lacks (Apply dest policy op xs r) =
    joined_lack (line_tokens (Apply dest policy op xs r)) (both_true (natural_lacks 10 dest refl) (both_true (policy_lacks policy) (both_true (op_lacks op) (operands_lack xs r))))
