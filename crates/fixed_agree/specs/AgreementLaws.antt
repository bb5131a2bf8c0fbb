-- The laws of the agreement.
use Rattle.std.specs.Prelude.{◌≡◌, ◌↔◌, ℕ, ℤ, Bool, Option, None, IsSome}
use Rattle.std.specs.Bool.{⊤}
use Rattle.fixed_machine.specs.Types.{Policy, Checked, Strict, Op}
use Rattle.fixed_machine.specs.declared.answer.Answer.{Answer}
use Rattle.fixed_machine.specs.Machine.{OperandValues, row_of, row_cause}
use Rattle.fixed_machine.specs.Projection.{project}
use Rattle.fixed_word.specs.Format.{IsWidth}
use Rattle.fixed_agree.specs.Agreement.{MachineAnswers, RowFits}

-- the machine's answer is the policy's projection of the row, and nothing else
abbrev pub AnswersTheProjection : Type 0
AnswersTheProjection =
    (signed : Bool) (n : ℕ) (policy : Policy) (op : Op) (operands : OperandValues) (result : Answer) → IsWidth n → MachineAnswers signed n policy op operands result ↔ (result ≡ project policy signed n (row_of op operands))

-- the precondition of the typed calls of a policy, for their row
abbrev pub Condition : Policy → Bool → ℕ → Option ℤ → Type 0
Condition Checked signed n row = ⊤
Condition Strict signed n row = RowFits signed n row
Condition _ signed n row = IsSome row

-- the machine finds no cause in the row exactly if that precondition holds
abbrev pub NoCauseExactly : Type 0
NoCauseExactly =
    (signed : Bool) (n k : ℕ) (policy : Policy) (op : Op) (row : Option ℤ) → (row_cause signed n policy row op k ≡ None) ↔ Condition policy signed n row
