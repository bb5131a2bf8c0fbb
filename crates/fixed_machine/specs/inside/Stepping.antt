-- What the parts of a step return.
use Rattle.std.specs.Prelude.{◌≡◌, ℕ, ℤ, Bool, List, Option, Some, None, Result, Ok, Err, ⊤}
use Rattle.fixed_word.specs.declared.rounding.Rounding.{Rounding}
use Rattle.fixed_script.specs.declared.names.Policy.{Policy}
use Rattle.fixed_script.specs.declared.names.Op.{Op}
use Rattle.fixed_machine.specs.declared.answer.Answer.{Answer}
use Rattle.fixed_script.specs.declared.line.Line.{Line}
use Rattle.fixed_script.specs.declared.line.Line.TheVariants.{Set, One, Two, Int, Three}
use Rattle.fixed_script.specs.Text.{ScriptLine, SetTo, Apply, OneRegister, TwoRegisters, RegisterAndInt, ThreeRegisters}
use Rattle.fixed_script.specs.Capped.{literal_value}
use Rattle.fixed_word.specs.Format.{fits, with_sign}
use Rattle.fixed_text.specs.declared.names.WordName.{WordName}
use Rattle.fixed_text.specs.Words.{is_signed, width}
use Rattle.fixed_machine.specs.Projection.{project}
use Rattle.fixed_machine.specs.Machine.{Cell, State, OperandValues, operand_values, row_cause, cause, answer}
use Rattle.fixed_machine.specs.declared.cause.Cause.{Cause}
use Rattle.fixed_machine.specs.declared.register.OperandRegisters.{OperandRegisters}
use Rattle.fixed_machine.specs.declared.register.Signed.{Signed}
use Rattle.fixed_machine.specs.declared.answer.SignedAnswer.{SignedAnswer}
use Rattle.fixed_machine.specs.declared.answer.SignedAnswer.TheVariants.{Absent as SignedAbsent, Bits as SignedBits, Flagged as SignedFlagged}
use Rattle.fixed_machine.specs.declared.answer.Answer.TheVariants.{Absent, Bits, Flagged}
use Rattle.fixed_machine.specs.Step.{cell_of}

-- x is a number of the word
abbrev pub is_value : WordName → ℤ → Bool
is_value word x = fits (is_signed word) (width word) x

abbrev pub values_of : OperandRegisters → OperandValues
values_of t = record { a = cell_of t.a; b = cell_of t.b; c = cell_of t.c }

-- the number of a sign and a magnitude
abbrev pub number_in : Signed → ℤ
number_in n = with_sign n.below_zero n.magnitude

-- the same answer, with that number
abbrev pub whole_answer : SignedAnswer → Answer
whole_answer SignedAbsent = Absent
whole_answer (SignedBits n) = Bits (number_in n)
whole_answer (SignedFlagged n verdict) = Flagged (number_in n) verdict

abbrev pub in_whole : Result SignedAnswer Cause → Result Answer Cause
in_whole (Ok a) = Ok (whole_answer a)
in_whole (Err c) = Err c

-- the line applies an operation under a policy, with that rounding
abbrev pub IsApplied : ScriptLine → Policy → Op → Option Rounding → Type 0
IsApplied (SetTo dest k) policy op rounding = ⊥
IsApplied (Apply dest p o xs r) policy op rounding = (p ≡ policy) × (o ≡ op) × (r ≡ rounding)

-- the operands that a line takes
abbrev pub HoldsOperands : List Cell → ScriptLine → OperandRegisters → Type 0
HoldsOperands cells (SetTo dest k) t = ⊤
HoldsOperands cells (Apply dest policy op xs rounding) t = values_of t ≡ operand_values cells xs

-- the answer of the policy for a row, or the row's cause
abbrev pub IsAnswerOfRow : Bool → ℕ → Policy → Op → Option ℤ → ℕ → Result Answer Cause → Type 0
IsAnswerOfRow signed n policy op row k (Ok a) = (row_cause signed n policy row op k ≡ None) × (a ≡ project policy signed n row)
IsAnswerOfRow signed n policy op row k (Err c) = row_cause signed n policy row op k ≡ Some c

-- the abstract line of a line, with the same numbers
abbrev pub script_line_of : Line → ScriptLine
script_line_of (Set dest literal) = SetTo dest (literal_value literal)
script_line_of (One dest policy op a rounding) = Apply dest policy op (OneRegister a) rounding
script_line_of (Two dest policy op a b rounding) = Apply dest policy op (TwoRegisters a b) rounding
script_line_of (Int dest policy op a literal rounding) = Apply dest policy op (RegisterAndInt a (literal_value literal)) rounding
script_line_of (Three dest policy op a b c rounding) = Apply dest policy op (ThreeRegisters a b c) rounding

-- the answer, or the cause
abbrev pub IsAnswerOfLine : State → ScriptLine → ℕ → Result Answer Cause → Type 0
IsAnswerOfLine s line k (Ok a) = (cause s line k ≡ None) × (a ≡ answer s line)
IsAnswerOfLine s line k (Err c) = cause s line k ≡ Some c
