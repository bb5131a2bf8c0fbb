-- What the machine answers to an operation, by its row: for calls of which no answer is written.
use Rattle.std.proofs.Common.{◌≡◌, ℕ, ℤ, Bool, Option, Some, None, refl, sym, ap, ◌∙◌}
use Rattle.fixed_machine.specs.Types.{Checked, Saturating, Strict, Op}
use Rattle.fixed_machine.specs.declared.answer.Answer.TheVariants.{Bits}
use Rattle.fixed_machine.specs.Machine.{OperandValues, row_of}
use Rattle.fixed_machine.specs.Projection.{project}
use Rattle.fixed_word.specs.Format.{clamp}
use Rattle.fixed_word.specs.Policies.{checked}
use Rattle.fixed_agree.specs.Agreement.{MachineAnswers}
use Rattle.fixed_agree.proofs.Answered.{plain, projected}

pub checked_row : (signed : Bool) (n : ℕ) (op : Op) (operands : OperandValues) (kept : Option ℤ) → kept ≡ checked signed n (row_of op operands) → MachineAnswers signed n Checked op operands (plain kept)
checked_row signed n op operands kept is =
    projected signed n Checked op operands (plain kept) (ap plain is)

pub saturating_row : (signed : Bool) (n : ℕ) (op : Op) (operands : OperandValues) (x : ℤ) → row_of op operands ≡ Some x → MachineAnswers signed n Saturating op operands (Bits (clamp signed n x))
saturating_row signed n op operands x row =
    projected signed n Saturating op operands (Bits (clamp signed n x)) (sym (ap (project Saturating signed n) row))

pub strict_row : (signed : Bool) (n : ℕ) (op : Op) (operands : OperandValues) (x : ℤ) → row_of op operands ≡ Some x → MachineAnswers signed n Strict op operands (Bits x)
strict_row signed n op operands x row =
    projected signed n Strict op operands (Bits x) (sym (ap (project Strict signed n) row))
