-- Where the machine answers a value under checked, the row is defined and its number fits.
use Rattle.std.proofs.Common.{◌≡◌, ℕ, ℤ, Bool, true, false, Option, Some, None, if◌then◌else◌, refl}
use Rattle.fixed_word.specs.Format.{IsWidth, fits}
use Rattle.fixed_machine.specs.Types.{Checked, Op}
use Rattle.fixed_machine.specs.declared.answer.Answer.TheVariants.{Bits}
use Rattle.fixed_machine.specs.Machine.{OperandValues, row_of}
use Rattle.fixed_machine.specs.Projection.{project}
use Rattle.fixed_machine.proofs.Fits.{in_range}
use Rattle.fixed_agree.specs.Agreement.{MachineAnswers, RowFits}
use Rattle.fixed_agree.proofs.Answered.{plain, projection_of}

value_where : (b : Bool) (x v : ℤ) → Bits v ≡ plain (if b then Some x else None) → b ≡ true
value_where true x v e = refl
value_where false x v e = cc

number_fits : (signed : Bool) (n : ℕ) (row : Option ℤ) (v : ℤ) → Bits v ≡ project Checked signed n row → RowFits signed n row
number_fits signed n None v e = cc
number_fits signed n (Some x) v e = in_range signed n x (value_where (fits signed n x) x v e)

pub value_fits : (signed : Bool) (n : ℕ) (op : Op) (operands : OperandValues) (v : ℤ) → IsWidth n → MachineAnswers signed n Checked op operands (Bits v) → RowFits signed n (row_of op operands)
value_fits signed n op operands v w h =
    number_fits signed n (row_of op operands) v (projection_of signed n Checked op operands (Bits v) w h)
