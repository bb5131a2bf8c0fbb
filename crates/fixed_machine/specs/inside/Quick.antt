-- A line that the fast path read, and the text of its parts.
use Rattle.std.specs.Prelude.{◌≡◌, ◌≤◌, ◌<◌, ◌+◌, ◌++◌, ℕ, ℤ, List, ◌∷◌, length, take, drop, Option, Some, None}
use Rattle.std.specs.List.{join_with_byte}
use Rattle.fixed_word.specs.Format.{with_sign}
use Rattle.fixed_word.specs.Pieces.{pieces}
use Rattle.fixed_script.specs.declared.line.Arity.{Arity}
use Rattle.fixed_script.specs.declared.line.Arity.TheVariants.{Unary, Binary, ByInteger, Ternary}
use Rattle.fixed_script.specs.Lines.{line_of_piece}
use Rattle.fixed_script.specs.Names.{arity}
use Rattle.fixed_script.specs.Text.{ScriptLine, SetTo, Apply, Operands, OneRegister, TwoRegisters, RegisterAndInt, ThreeRegisters, operand_tokens}
use Rattle.fixed_machine.specs.declared.quick.Applied.{Applied}
use Rattle.fixed_machine.specs.declared.quick.QuickLine.{QuickLine}

-- the whole number of a line
abbrev pub quick_number : QuickLine → ℤ
quick_number line = with_sign line.below_zero line.magnitude

-- the operands of a line, as many as a arity has
abbrev pub quick_operands : Arity → QuickLine → Operands
quick_operands Unary line = OneRegister line.a
quick_operands Binary line = TwoRegisters line.a line.b
quick_operands ByInteger line = RegisterAndInt line.a (quick_number line)
quick_operands Ternary line = ThreeRegisters line.a line.b line.c

abbrev pub applied_or_set : Option Applied → QuickLine → ScriptLine
applied_or_set None line = SetTo line.dest (quick_number line)
applied_or_set (Some applied) line = Apply line.dest applied.policy applied.op (quick_operands (arity applied.op) line) None

-- the line of a script that was read
abbrev pub script_line_of_quick : QuickLine → ScriptLine
script_line_of_quick line = applied_or_set line.applied line

-- The text is at a place, before a separator. The bytes after that begin at `end`, which is at most `most` bytes
-- further on.
pub record Stands (bytes : List ℕ) (at : ℕ) (text : List ℕ) (separator most end : ℕ) : Type 0 where
  pub reads : drop at bytes ≡ text ++ (separator ∷ drop end bytes)
  pub within : end ≤ at + most

-- Operands of that arity are at a place, before a newline. They were stored in a line, and all its registers are among
-- the first `count`.
pub record HasOperands (kind : Arity) (count : ℕ) (bytes : List ℕ) (at : ℕ) (line read : QuickLine) (end : ℕ) : Type 0 where
  pub dest : read.dest ≡ line.dest
  pub applied : read.applied ≡ line.applied
  pub a : read.a < count
  pub b : read.b < count
  pub c : read.c < count
  pub text : drop at bytes ≡ join_with_byte 32 (operand_tokens (quick_operands kind read)) ++ (10 ∷ drop end bytes)
  pub within : end ≤ at + 25

-- The first piece is that line, ends there, and all its registers are among the first `count`.
pub record IsQuickLine (count : ℕ) (bytes : List ℕ) (line : QuickLine) (end : ℕ) : Type 0 where
  pub reads : line_of_piece (take end bytes) ≡ Some (script_line_of_quick line)
  pub cut : pieces bytes ≡ take end bytes ∷ pieces (drop end bytes)
  pub some : 0 < end
  pub within : end ≤ length bytes
  pub dest : line.dest < count
  pub a : line.a < count
  pub b : line.b < count
  pub c : line.c < count
