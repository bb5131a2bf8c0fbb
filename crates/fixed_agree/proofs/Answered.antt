-- The machine's answer to a line is what the policy makes of the line's row.
use Rattle.std.proofs.Common.{◌≡◌, ℕ, ℤ, Bool, true, false, [], ◌∷◌, Option, refl, sym, inl, inr}
use Rattle.std.specs.Option.{option_map_or}
use Rattle.fixed_machine.specs.Types.{WordName, I8, I16, I32, I64, U8, U16, U32, U64, Policy, Op}
use Rattle.fixed_machine.specs.declared.answer.Answer.{Answer}
use Rattle.fixed_machine.specs.declared.answer.Answer.TheVariants.{Absent, Bits, Flagged}
use Rattle.fixed_script.specs.Text.{ThreeRegisters}
use Rattle.fixed_machine.specs.Machine.{State, OperandValues, row_of, answer, answer_by}
use Rattle.fixed_text.specs.Words.{is_signed, width}
use Rattle.fixed_machine.specs.Projection.{project}
use Rattle.fixed_word.specs.Format.{IsWidth}
use Rattle.fixed_agree.specs.Agreement.{MachineAnswers}

-- the answer of a number, and of a number with its verdict
abbrev pub plain : Option ℤ → Answer
plain row = option_map_or Bits row Absent

abbrev pub flagged : Option (ℤ × Bool) → Answer
flagged row = option_map_or (λ p. Flagged p.0 p.1) row Absent

pub projected : (signed : Bool) (n : ℕ) (policy : Policy) (op : Op) (operands : OperandValues) (result : Answer) → result ≡ project policy signed n (row_of op operands) → MachineAnswers signed n policy op operands result
unfolding MachineAnswers answer_by
projected signed n policy op operands result e s dest xs f g h = rw (f, g, h) (sym e)

-- each sign and width is that of a word
pub record HasWord (signed : Bool) (n : ℕ) : Type 0 where
  pub word : WordName
  pub sign : is_signed word ≡ signed
  pub bits : width word ≡ n

pub has_word : (signed : Bool) (n : ℕ) → IsWidth n → HasWord signed n
has_word true n (inl e) = record { word = I8; sign = refl; bits = sym e }
has_word true n (inr (inl e)) = record { word = I16; sign = refl; bits = sym e }
has_word true n (inr (inr (inl e))) = record { word = I32; sign = refl; bits = sym e }
has_word true n (inr (inr (inr e))) = record { word = I64; sign = refl; bits = sym e }
has_word false n (inl e) = record { word = U8; sign = refl; bits = sym e }
has_word false n (inr (inl e)) = record { word = U16; sign = refl; bits = sym e }
has_word false n (inr (inr (inl e))) = record { word = U32; sign = refl; bits = sym e }
has_word false n (inr (inr (inr e))) = record { word = U64; sign = refl; bits = sym e }

-- the line on three registers that hold the operands
pub projection_of : (signed : Bool) (n : ℕ) (policy : Policy) (op : Op) (operands : OperandValues) (result : Answer) → IsWidth n → MachineAnswers signed n policy op operands result → result ≡ project policy signed n (row_of op operands)
unfolding MachineAnswers answer_by
projection_of signed n policy op operands result w h =
    let found = has_word signed n w in
    let s : State = record { word = found.word; registers = operands.a ∷ operands.b ∷ operands.c ∷ [] } in
    let e = h s 0 (ThreeRegisters 0 1 2) found.sign found.bits refl in
    rw (found.sign, found.bits) at (sym e)
