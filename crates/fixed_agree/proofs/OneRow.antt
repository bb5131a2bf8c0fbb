-- Four policies on one row.
use Rattle.std.proofs.Common.{◌≡◌, ℕ, ℤ, Bool, true, false, not, Option, Some, None, if◌then◌else◌, refl, ap, sym, ◌∙◌}
use Rattle.std.specs.Prelude.{IsSome}
use Rattle.fixed_machine.specs.Types.{Checked, Saturating, Wrapping, Overflowing, Op, MulAdd, AddProd}
use Rattle.fixed_machine.specs.Rows.{exact}
use Rattle.fixed_machine.specs.declared.answer.Answer.TheVariants.{Absent, Bits}
use Rattle.fixed_machine.specs.Machine.{OperandValues, row_of}
use Rattle.fixed_machine.specs.Projection.{project}
use Rattle.fixed_machine.proofs.Fits.{in_range}
use Rattle.fixed_word.specs.Format.{IsWidth, fits, wrap}
use Rattle.fixed_word.specs.Policies.{checked, overflowing, saturating, wrapping}
use Rattle.fixed_word.proofs.Wraps.{width_pos, wrap_same}
use Rattle.fixed_agree.specs.declared.forms.Forms.{Forms}
use Rattle.fixed_agree.specs.Agreement.{MachineAnswers}
use Rattle.fixed_agree.specs.Forms.{FormsAgree}
use Rattle.fixed_agree.proofs.Answered.{flagged, plain, projection_of}

-- a value where the test holds
value_where : (b : Bool) (x w : ℤ) → (b ≡ true → w ≡ x) → plain (if b then Some x else None) ≡ (if not b then Absent else Bits w)
value_where true x w e = ap (λ (y : ℤ). Bits y) (sym (e refl))
value_where false x w e = refl

-- what four typed calls answer of a number that every policy has
pub of_row : (signed : Bool) (n : ℕ) (row : Option ℤ) (forms : Forms) → IsWidth n → IsSome row → forms.checked ≡ project Checked signed n row → forms.overflowing ≡ project Overflowing signed n row
    → forms.wrapping ≡ project Wrapping signed n row → forms.saturating ≡ project Saturating signed n row → FormsAgree signed n row forms
of_row signed n None forms w d c o r s = cc
of_row signed n (Some x) forms w d c o r s = record {
  number = x;
  defined = refl;
  value = wrap signed n x;
  verdict = not (fits signed n x);
  by_overflowing = o;
  by_checked = c ∙ value_where (fits signed n x) x (wrap signed n x) (λ e. wrap_same signed n x (width_pos n w) (in_range signed n x e));
  by_wrapping = r;
  by_saturating = s;
}

-- four typed calls whose contracts name one number
pub typed : (signed : Bool) (n : ℕ) (x : ℤ) (forms : Forms) (kept : Option ℤ) (wrapped held : ℤ) (flag : ℤ × Bool) → IsWidth n
    → forms.checked ≡ plain kept → kept ≡ checked signed n (Some x) → forms.overflowing ≡ flagged (Some flag) → Some flag ≡ overflowing signed n (Some x)
    → forms.wrapping ≡ Bits wrapped → Some wrapped ≡ wrapping signed n (Some x) → forms.saturating ≡ Bits held → Some held ≡ saturating signed n (Some x) → FormsAgree signed n (Some x) forms
typed signed n x forms kept wrapped held flag w c kept_is o flag_is r wrapped_is s held_is =
    of_row signed n (Some x) forms w refl (c ∙ ap plain kept_is) (o ∙ ap flagged flag_is) (r ∙ ap plain wrapped_is) (s ∙ ap plain held_is)

pub forms_agree : (signed : Bool) (n : ℕ) (op : Op) (operands : OperandValues) (forms : Forms) → IsWidth n → IsSome (row_of op operands) → MachineAnswers signed n Checked op operands forms.checked
    → MachineAnswers signed n Overflowing op operands forms.overflowing → MachineAnswers signed n Wrapping op operands forms.wrapping → MachineAnswers signed n Saturating op operands forms.saturating
    → FormsAgree signed n (row_of op operands) forms
forms_agree signed n op operands forms w d c o r s =
    of_row signed n (row_of op operands) forms w d (projection_of signed n Checked op operands forms.checked w c) (projection_of signed n Overflowing op operands forms.overflowing w o)
    (projection_of signed n Wrapping op operands forms.wrapping w r) (projection_of signed n Saturating op operands forms.saturating w s)

-- the two operations on three operands have a number everywhere
pub mul_add_defined : (operands : OperandValues) → IsSome (row_of MulAdd operands)
unfolding exact
mul_add_defined operands = refl

pub add_prod_defined : (operands : OperandValues) → IsSome (row_of AddProd operands)
unfolding exact
add_prod_defined operands = refl
