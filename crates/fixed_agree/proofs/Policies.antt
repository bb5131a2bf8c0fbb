-- What a typed call answers is what the machine answers, policy by policy.
use Rattle.std.proofs.Common.{◌≡◌, ℕ, ℤ, zero, suc, pos, negsuc, Bool, Option, Some, refl, sym, ap, ◌∙◌}
use Rattle.std.specs.Prelude.{IsSome}
use Rattle.fixed_machine.specs.Types.{Checked, Saturating, Wrapping, Overflowing, Strict, Op}
use Rattle.fixed_machine.specs.declared.answer.Answer.{Answer}
use Rattle.fixed_machine.specs.declared.answer.Answer.TheVariants.{Bits, Flagged}
use Rattle.fixed_machine.specs.Machine.{OperandValues, row_of}
use Rattle.fixed_machine.specs.Projection.{project}
use Rattle.fixed_word.specs.Policies.{checked, overflowing, saturating, wrapping}
use Rattle.fixed_kernel.specs.Rows.{by_divisor, by_sign}
use Rattle.fixed_agree.specs.Agreement.{MachineAnswers, RowFits}
use Rattle.fixed_agree.proofs.Answered.{flagged, plain, projected}

-- ---- rows that are defined
pub some_divided : (d x : ℤ) → IsSome (by_divisor d x) → by_divisor d x ≡ Some x
some_divided (pos zero) x some = cc
some_divided (pos (suc d)) x some = refl
some_divided (negsuc d) x some = refl

pub some_rooted : (a x : ℤ) → IsSome (by_sign a x) → by_sign a x ≡ Some x
some_rooted (pos a) x some = refl
some_rooted (negsuc a) x some = cc

pub fit_divided : (signed : Bool) (n : ℕ) (d x : ℤ) → RowFits signed n (by_divisor d x) → by_divisor d x ≡ Some x
fit_divided signed n (pos zero) x fits = absurd fits
fit_divided signed n (pos (suc d)) x fits = refl
fit_divided signed n (negsuc d) x fits = refl

pub fit_rooted : (signed : Bool) (n : ℕ) (a x : ℤ) → RowFits signed n (by_sign a x) → by_sign a x ≡ Some x
fit_rooted signed n (pos a) x fits = refl
fit_rooted signed n (negsuc a) x fits = absurd fits

-- ---- the policies
module _ (signed : Bool) (n : ℕ) (op : Op) (operands : OperandValues) (result : Answer) where
  pub by_checked : (kept : Option ℤ) → result ≡ plain kept → kept ≡ checked signed n (row_of op operands) → MachineAnswers signed n Checked op operands result
  by_checked kept told is = projected signed n Checked op operands result (told ∙ ap plain is)

  pub by_wrapping : (x v : ℤ) → row_of op operands ≡ Some x → result ≡ Bits v → Some v ≡ wrapping signed n (Some x) → MachineAnswers signed n Wrapping op operands result
  by_wrapping x v row told is = projected signed n Wrapping op operands result (told ∙ ap plain is ∙ sym (ap (project Wrapping signed n) row))

  pub by_saturating : (x v : ℤ) → row_of op operands ≡ Some x → result ≡ Bits v → Some v ≡ saturating signed n (Some x) → MachineAnswers signed n Saturating op operands result
  by_saturating x v row told is = projected signed n Saturating op operands result (told ∙ ap plain is ∙ sym (ap (project Saturating signed n) row))

  pub by_overflowing : (x v : ℤ) (verdict : Bool) → row_of op operands ≡ Some x → result ≡ Flagged v verdict → Some (v, verdict) ≡ overflowing signed n (Some x) → MachineAnswers signed n Overflowing op operands result
  by_overflowing x v verdict row told is = projected signed n Overflowing op operands result (told ∙ ap flagged is ∙ sym (ap (project Overflowing signed n) row))

  pub by_strict : (x v : ℤ) → row_of op operands ≡ Some x → result ≡ Bits v → v ≡ x → MachineAnswers signed n Strict op operands result
  by_strict x v row told is = projected signed n Strict op operands result (told ∙ ap (λ (y : ℤ). Bits y) is ∙ sym (ap (project Strict signed n) row))
