-- The machine's answer to a line, by what the line's registers hold.
use Rattle.std.specs.Prelude.{◌≡◌, ℕ, ℤ, pos, Bool, true, false, Option, Some, None}
use Rattle.fixed_machine.specs.Types.{Policy, Op}
use Rattle.fixed_machine.specs.declared.answer.Answer.{Answer}
use Rattle.fixed_script.specs.Names.{arity}
use Rattle.fixed_script.specs.Text.{Operands, OneRegister, TwoRegisters, RegisterAndInt, Apply, arity_of}
use Rattle.fixed_machine.specs.Machine.{State, Cell, OperandValues, operand_values, integer, answer}
use Rattle.fixed_text.specs.Words.{is_signed, width}
use Rattle.fixed_script.specs.Offered.{is_offered}
use Rattle.fixed_word.specs.Format.{InRange}

-- in every state of a word of that sign and width, `result` is the machine's answer to every line of the policy and the
-- operation that takes these operands and names no rounding
unfoldable pub MachineAnswers : Bool → ℕ → Policy → Op → OperandValues → Answer → Type 0
MachineAnswers signed n policy op operands result =
    (s : State) (dest : ℕ) (xs : Operands) → is_signed s.word ≡ signed → width s.word ≡ n → operand_values s.registers xs ≡ operands → answer s (Apply dest policy op xs None) ≡ result

-- ---- operands, by their bits and fractions
abbrev pub holding : ℤ → ℕ → Cell
holding a f = record { bits = a; fraction = f }

abbrev pub one_operand : ℤ → ℕ → OperandValues
one_operand a f = record { a = holding a f; b = integer (pos 0); c = integer (pos 0) }

abbrev pub two_operands : ℤ → ℤ → ℕ → OperandValues
two_operands a b f = record { a = holding a f; b = holding b f; c = integer (pos 0) }

abbrev pub with_integer : ℤ → ℤ → ℕ → OperandValues
with_integer a k f = record { a = holding a f; b = integer k; c = integer (pos 0) }

-- three operands, and then their numbers of fraction bits
abbrev pub three_operands : ℤ → ℤ → ℤ → ℕ → ℕ → ℕ → OperandValues
three_operands a b c f g h = record { a = holding a f; b = holding b g; c = holding c h }

-- ---- operations, by the operands that they take
abbrev pub IsUnary : Op → Type 0
IsUnary op = arity op ≡ arity_of (OneRegister 0)

abbrev pub IsBinary : Op → Type 0
IsBinary op = arity op ≡ arity_of (TwoRegisters 0 0)

abbrev pub IsByInteger : Op → Type 0
IsByInteger op = arity op ≡ arity_of (RegisterAndInt 0 (pos 0))

-- the operation is offered under the policy on words of both signs
abbrev pub IsOfferedOnBoth : Policy → Op → Type 0
IsOfferedOnBoth policy op = (is_offered true policy op ≡ true) × (is_offered false policy op ≡ true)

-- the row is defined and its number fits
abbrev pub RowFits : Bool → ℕ → Option ℤ → Type 0
RowFits signed n None = ⊥
RowFits signed n (Some x) = InRange signed n x
