-- How long texts are.
use Rattle.std.proofs.Common.{ℕ, ◌≤◌, Option, Some, None, length, length-append, arith}
use Rattle.fixed_word.specs.declared.rounding.Rounding.{Rounding}
use Rattle.fixed_script.specs.declared.names.Policy.{Policy}
use Rattle.fixed_script.specs.declared.names.Policy.TheVariants.{Checked, Saturating, Wrapping, Overflowing, Strict}
use Rattle.fixed_script.specs.declared.names.Op.{Op}
use Rattle.fixed_script.specs.Names.{policy_name}
use Rattle.fixed_script.specs.Text.{Apply, Operands, OneRegister, TwoRegisters, RegisterAndInt, ThreeRegisters, line_text}
use Rattle.fixed_digits.proofs.Lengths.{length_natural_some}

policy_long : (p : Policy) → 6 ≤ length (policy_name p)
policy_long Checked = omega arith
policy_long Saturating = omega arith
policy_long Wrapping = omega arith
policy_long Overflowing = omega arith
policy_long Strict = omega arith

-- an arithmetic line has at least 12 bytes: `rD`, a policy of 6 letters or more, and two spaces and `rA` behind an operation
pub line_long : (dest : ℕ) (policy : Policy) (op : Op) (xs : Operands) (r : Option Rounding) → 12 ≤ length (line_text (Apply dest policy op xs r))
line_long dest policy op (OneRegister a) None = simp length-append (omega (arith, length_natural_some dest, policy_long policy, length_natural_some a))
line_long dest policy op (OneRegister a) (Some r) = simp length-append (omega (arith, length_natural_some dest, policy_long policy, length_natural_some a))
line_long dest policy op (TwoRegisters a b) None = simp length-append (omega (arith, length_natural_some dest, policy_long policy, length_natural_some a))
line_long dest policy op (TwoRegisters a b) (Some r) = simp length-append (omega (arith, length_natural_some dest, policy_long policy, length_natural_some a))
line_long dest policy op (RegisterAndInt a k) None = simp length-append (omega (arith, length_natural_some dest, policy_long policy, length_natural_some a))
line_long dest policy op (RegisterAndInt a k) (Some r) = simp length-append (omega (arith, length_natural_some dest, policy_long policy, length_natural_some a))
line_long dest policy op (ThreeRegisters a b c) None = simp length-append (omega (arith, length_natural_some dest, policy_long policy, length_natural_some a))
line_long dest policy op (ThreeRegisters a b c) (Some r) = simp length-append (omega (arith, length_natural_some dest, policy_long policy, length_natural_some a))
