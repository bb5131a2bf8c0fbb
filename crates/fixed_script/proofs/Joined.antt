-- The tokens of a line's text are those of the line.
use Rattle.std.proofs.Common.{◌≡◌, ◌++◌, Option, Some, None, true, refl}
use Rattle.std.specs.Cmp.Derive.{both_true}
use Rattle.fixed_word.specs.declared.rounding.Rounding.{Rounding}
use Rattle.fixed_word.specs.declared.rounding.Rounding.TheVariants.{Down, Zero, Even}
use Rattle.fixed_script.specs.declared.names.Policy.{Policy}
use Rattle.fixed_script.specs.declared.names.Policy.TheVariants.{Checked, Saturating, Wrapping, Overflowing, Strict}
use Rattle.fixed_script.specs.declared.names.Op.{Op}
use Rattle.fixed_script.specs.declared.names.Op.TheVariants.{Neg, Add, Sub, Mul, Div, Recip, MulAdd, AddProd, MulInt, DivInt, DivEuclid, DivEuclidInt, RemEuclidInt, NextMultipleOf, Dist, Sqrt, Abs, Signum, Rem, RemInt, RemEuclid, NextPowerOfTwo}
use Rattle.fixed_script.specs.Names.{policy_name, op_name}
use Rattle.fixed_script.specs.Text.{ScriptLine, SetTo, Apply, Operands, OneRegister, TwoRegisters, RegisterAndInt, ThreeRegisters, line_tokens, line_text, operand_tokens}
use Rattle.fixed_script.proofs.RoundingTokens.{rounding_tokens}
use Rattle.fixed_text.specs.Tokens.{tokens_of}
use Rattle.fixed_text.proofs.Joined.{no_space, all_no_space, split_joined, natural_no_space, whole_no_space}

-- no token of a line has a space
policy_no_space : (p : Policy) → no_space (policy_name p) ≡ true
policy_no_space Checked = refl
policy_no_space Saturating = refl
policy_no_space Wrapping = refl
policy_no_space Overflowing = refl
policy_no_space Strict = refl

op_no_space : (o : Op) → no_space (op_name o) ≡ true
op_no_space Neg = refl
op_no_space Add = refl
op_no_space Sub = refl
op_no_space Mul = refl
op_no_space Div = refl
op_no_space Recip = refl
op_no_space MulAdd = refl
op_no_space AddProd = refl
op_no_space MulInt = refl
op_no_space DivInt = refl
op_no_space DivEuclid = refl
op_no_space DivEuclidInt = refl
op_no_space RemEuclidInt = refl
op_no_space NextMultipleOf = refl
op_no_space Dist = refl
op_no_space Sqrt = refl
op_no_space Abs = refl
op_no_space Signum = refl
op_no_space Rem = refl
op_no_space RemInt = refl
op_no_space RemEuclid = refl
op_no_space NextPowerOfTwo = refl

rounding_no_space : (r : Option Rounding) → all_no_space (rounding_tokens r) ≡ true
rounding_no_space None = refl
rounding_no_space (Some Down) = refl
rounding_no_space (Some Zero) = refl
rounding_no_space (Some Even) = refl

operands_no_space : (xs : Operands) (r : Option Rounding) → all_no_space (operand_tokens xs ++ rounding_tokens r) ≡ true
operands_no_space (OneRegister a) r = both_true (natural_no_space a) (rounding_no_space r)
operands_no_space (TwoRegisters a b) r = both_true (natural_no_space a) (both_true (natural_no_space b) (rounding_no_space r))
operands_no_space (RegisterAndInt a k) r = both_true (natural_no_space a) (both_true (whole_no_space k) (rounding_no_space r))
operands_no_space (ThreeRegisters a b c) r = both_true (natural_no_space a) (both_true (natural_no_space b) (both_true (natural_no_space c) (rounding_no_space r)))

line_no_space : (l : ScriptLine) → all_no_space (line_tokens l) ≡ true
line_no_space (SetTo dest value) = both_true (natural_no_space dest) (both_true (whole_no_space value) refl)
line_no_space (Apply dest policy op xs r) = both_true (natural_no_space dest) (both_true (policy_no_space policy) (both_true (op_no_space op) (operands_no_space xs r)))

pub tokens_of_line : (l : ScriptLine) → tokens_of (line_text l) ≡ line_tokens l
tokens_of_line (SetTo dest value) = split_joined _ _ (line_no_space (SetTo dest value))
tokens_of_line (Apply dest policy op xs r) = split_joined _ _ (line_no_space (Apply dest policy op xs r))
