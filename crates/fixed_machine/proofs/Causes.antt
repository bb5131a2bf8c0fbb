-- The cause of a line, from its tests.
use Rattle.std.proofs.Common.{◌≡◌, ◌^◌, ◌<◌, ℕ, ℤ, Bool, true, false, nat_le, List, pos, set, length, unsigned_abs, Option, Some, None, Result, Ok, Err, if◌then◌else◌, ◌||◌, not, refl, ap, ◌∙◌, sym, arith, neg_ℤ, subst, inl, inr}
use Rattle.std.specs.Option.{option_map_or}
use Rattle.std.proofs.lemmas.Bool.Decides.{nat_tests}
use Rattle.std.specs.Bool.{⊤}
use Rattle.std.proofs.lemmas.List.{get_or_past}
use Rattle.std.specs.List.{list_any, All}
use Rattle.std.proofs.lemmas.Bool.{cases_lt}
use Rattle.std.proofs.lemmas.List.Elements.{All-set}
use Rattle.std.proofs.lemmas.Int.{ints}
use Rattle.fixed_word.specs.declared.rounding.Rounding.{Rounding}
use Rattle.fixed_text.specs.declared.decimal.Decimal.{Decimal}
use Rattle.fixed_script.specs.Capped.{literal_value}
use Rattle.fixed_text.specs.declared.names.WordName.{WordName}
use Rattle.fixed_text.specs.declared.names.WordName.TheVariants.{I8, I16, I32, I64, U8, U16, U32, U64}
use Rattle.fixed_script.specs.declared.names.Policy.{Policy}
use Rattle.fixed_script.specs.declared.names.Policy.TheVariants.{Checked, Saturating, Wrapping, Overflowing, Strict}
use Rattle.fixed_script.specs.declared.names.Op.{Op}
use Rattle.fixed_machine.specs.declared.answer.Answer.{Answer}
use Rattle.fixed_machine.specs.declared.answer.Answer.TheVariants.{Absent, Bits, Flagged}
use Rattle.fixed_script.specs.Text.{ScriptLine, SetTo, Apply, Operands, OneRegister, TwoRegisters, RegisterAndInt, ThreeRegisters}
use Rattle.fixed_machine.specs.Projection.{project}
use Rattle.fixed_script.specs.Offered.{is_offered}
use Rattle.fixed_machine.specs.Machine.{State, Cell, cell_at, destination, registers_of, cause, integer, OperandValues, late_cause_by, row_cause, row_by, operand_values, is_unoffered, is_out_of_range, is_mismatched, answer, answer_by}
use Rattle.fixed_text.specs.Words.{is_signed, width}
use Rattle.fixed_machine.specs.inside.Stepping.{IsAnswerOfLine, IsAnswerOfRow, IsApplied, HoldsOperands, values_of, is_value}
use Rattle.fixed_machine.specs.Step.{IsCell}
use Rattle.fixed_machine.specs.declared.register.OperandRegisters.{OperandRegisters}
use Rattle.fixed_machine.specs.declared.cause.Cause.{Cause}
use Rattle.fixed_machine.specs.declared.cause.Cause.TheVariants.{Syntax, OutOfRange, FractionMismatch, Overflow}
use Rattle.fixed_machine.proofs.Fits.{wrap_fits, clamp_fits, value_small}

-- a line whose first three tests fail
pub record PassesTests (s : State) (line : ScriptLine) : Type 0 where
  pub offered : is_unoffered s.word line ≡ false
  pub in_range : is_out_of_range s line ≡ false
  pub one_fraction : is_mismatched s line ≡ false

pub after_tests : (s : State) (line : ScriptLine) (k : ℕ) → PassesTests s line → cause s line k ≡ late_cause_by row_by s line k
after_tests s line k t = rw (t.offered, t.in_range, t.one_fraction) refl

apply_answer : (s : State) (dest : ℕ) (policy : Policy) (op : Op) (xs : Operands) (how : Option Rounding) → answer s (Apply dest policy op xs how) ≡ project policy (is_signed s.word) (width s.word) (row_by how op (operand_values s.registers xs))
unfolding answer_by
apply_answer s dest policy op xs how = refl

set_answer : (s : State) (dest : ℕ) (k : ℤ) → answer s (SetTo dest k) ≡ Bits k
unfolding answer_by
set_answer s dest k = refl

-- what the policy makes of the row is what the line asks for
pub apply_tells : (s : State) (line : ScriptLine) (dest : ℕ) (policy : Policy) (op : Op) (xs : Operands) (how : Option Rounding) (k : ℕ) (r : Result Answer Cause) → line ≡ Apply dest policy op xs how → PassesTests s line
    → IsAnswerOfRow (is_signed s.word) (width s.word) policy op (row_by how op (operand_values s.registers xs)) k r → IsAnswerOfLine s line k r
apply_tells s line dest policy op xs how k (Ok a) is t h = (after_tests s line k t ∙ ap (λ (l : ScriptLine). late_cause_by row_by s l k) is ∙ h.0, h.1 ∙ sym (ap (answer s) is ∙ apply_answer s dest policy op xs how))
apply_tells s line dest policy op xs how k (Err c) is t h = after_tests s line k t ∙ ap (λ (l : ScriptLine). late_cause_by row_by s l k) is ∙ h

pub set_tells : (s : State) (line : ScriptLine) (dest : ℕ) (x : ℤ) (k : ℕ) → line ≡ SetTo dest x → PassesTests s line → IsAnswerOfLine s line k (Ok (Bits x))
set_tells s line dest x k is t = (after_tests s line k t ∙ ap (λ (l : ScriptLine). late_cause_by row_by s l k) is, sym (ap (answer s) is ∙ set_answer s dest x))

-- ---- what holds of a line in range
pub either_false : (a b : Bool) → (a || b) ≡ false → (a ≡ false) × (b ≡ false)
either_false true b e = cc
either_false false b e = (refl, e)

pub destination_there : (s : State) (line : ScriptLine) → is_out_of_range s line ≡ false → destination line < length s.registers
unfolding is_out_of_range
destination_there s (SetTo dest x) h = grind (arith, nat_tests)
destination_there s (Apply dest policy op xs how) h =
    let p = either_false (list_any (λ r. nat_le (length s.registers) r) (registers_of (Apply dest policy op xs how))) _ h in
    let q = either_false (nat_le (length s.registers) dest) _ p.0 in
    grind (arith, nat_tests, q.0)

not_not : (b : Bool) → not b ≡ false → b ≡ true
not_not true h = refl
not_not false h = cc

pub set_value : (s : State) (dest : ℕ) (x : ℤ) → is_out_of_range s (SetTo dest x) ≡ false → is_value s.word x ≡ true
unfolding is_out_of_range
set_value s dest x h =
    let p = either_false (list_any (λ r. nat_le (length s.registers) r) (registers_of (SetTo dest x))) _ h in
    let q = either_false (not (is_value s.word x)) _ p.1 in
    not_not (is_value s.word x) q.0

pub integer_value : (s : State) (dest : ℕ) (policy : Policy) (op : Op) (a : ℕ) (x : ℤ) (how : Option Rounding) → is_out_of_range s (Apply dest policy op (RegisterAndInt a x) how) ≡ false → is_value s.word x ≡ true
unfolding is_out_of_range
integer_value s dest policy op a x how h =
    let p = either_false (list_any (λ r. nat_le (length s.registers) r) (registers_of (Apply dest policy op (RegisterAndInt a x) how))) _ h in
    let q = either_false (not (is_value s.word x)) _ p.1 in
    not_not (is_value s.word x) q.0

pub size_of_literal : (l : Decimal) → unsigned_abs (literal_value l) ≡ l.magnitude
size_of_literal l = by_sign l.below_zero l.magnitude
  where
    by_sign : (b : Bool) (m : ℕ) → unsigned_abs (if b then neg_ℤ (pos m) else pos m) ≡ m
    by_sign false m = refl
    by_sign true m = omega (arith, ints)

pub literal_small : (s : State) (dest : ℕ) (policy : Policy) (op : Op) (a : ℕ) (l : Decimal) (how : Option Rounding) → is_out_of_range s (Apply dest policy op (RegisterAndInt a (literal_value l)) how) ≡ false → l.magnitude < 2 ^ 64
literal_small s dest policy op a l how h = omega (arith, value_small s.word (literal_value l) (integer_value s dest policy op a (literal_value l) how h), size_of_literal l)

pub set_small : (s : State) (dest : ℕ) (l : Decimal) → is_out_of_range s (SetTo dest (literal_value l)) ≡ false → l.magnitude < 2 ^ 64
set_small s dest l h = omega (arith, value_small s.word (literal_value l) (set_value s dest (literal_value l) h), size_of_literal l)

-- ---- what a line with no cause stores
by_tests : (k : ℕ) (p q r : Bool) (late : Option Cause) → (if p then Some (Syntax k) else if q then Some (OutOfRange k) else if r then Some (FractionMismatch k) else late) ≡ None → (p ≡ false) × (q ≡ false) × (r ≡ false) × (late ≡ None)
by_tests k true q r late h = cc
by_tests k false true r late h = cc
by_tests k false false true late h = cc
by_tests k false false false late h = (refl, refl, refl, h)

pub no_cause : (s : State) (line : ScriptLine) (k : ℕ) → cause s line k ≡ None → PassesTests s line × (late_cause_by row_by s line k ≡ None)
no_cause s line k h =
    let p = by_tests k (is_unoffered s.word line) (is_out_of_range s line) (is_mismatched s line) (late_cause_by row_by s line k) h in
    (record { offered = p.0; in_range = p.1; one_fraction = p.2 }, p.3)

-- the number of an answer is a value of the word
abbrev pub IsValued : WordName → Answer → Type 0
IsValued w Absent = ⊤
IsValued w (Bits x) = is_value w x ≡ true
IsValued w (Flagged x b) = is_value w x ≡ true

pub no_overflow : (b : Bool) (k : ℕ) → (if b then None else Some (Overflow k)) ≡ None → b ≡ true
no_overflow true k h = refl
no_overflow false k h = cc

project_valued : (w : WordName) (policy : Policy) (op : Op) (row : Option ℤ) (k : ℕ) → row_cause (is_signed w) (width w) policy row op k ≡ None → IsValued w (project policy (is_signed w) (width w) row)
unfolding row_cause
project_valued w Checked op None k h = tt
project_valued w Saturating op None k h = tt
project_valued w Wrapping op None k h = tt
project_valued w Overflowing op None k h = tt
project_valued w Strict op None k h = tt
project_valued w Checked op (Some x) k h = by_fit (is_value w x) refl
  where
    by_fit : (b : Bool) → is_value w x ≡ b → IsValued w (option_map_or Bits (if b then Some x else None) Absent)
    by_fit true is = is
    by_fit false is = tt
project_valued w Saturating op (Some x) k h = clamp_fits w x
project_valued w Wrapping op (Some x) k h = wrap_fits w x
project_valued w Overflowing op (Some x) k h = wrap_fits w x
project_valued w Strict op (Some x) k h = no_overflow (is_value w x) k h

pub answer_valued : (s : State) (line : ScriptLine) (k : ℕ) → cause s line k ≡ None → IsValued s.word (answer s line)
unfolding answer_by
answer_valued s (SetTo dest x) k h = set_value s dest x (no_cause s (SetTo dest x) k h).0.in_range
answer_valued s (Apply dest policy op xs how) k h = project_valued s.word policy op (row_by how op (operand_values s.registers xs)) k (no_cause s (Apply dest policy op xs how) k h).1

-- what a line stores, and where
pub record Stores (s : State) (line : ScriptLine) (a : Answer) : Type 0 where
  pub there : destination line < length s.registers
  pub valued : IsValued s.word a

pub stores : (s : State) (line : ScriptLine) (k : ℕ) (a : Answer) → (cause s line k ≡ None) × (a ≡ answer s line) → Stores s line a
stores s line k a h = record {
  there = destination_there s line (no_cause s line k h.0).0.in_range;
  valued = subst (IsValued s.word) (sym h.1) (answer_valued s line k h.0);
}

-- registers stay those of their word where one gets a value
pub cells_stay : (w : WordName) (cells : List Cell) (dest : ℕ) (x : ℤ) → dest < length cells → All (IsCell w) cells → is_value w x ≡ true → All (IsCell w) (set cells dest (record { bits = x; fraction = (cell_at cells dest).fraction }))
cells_stay w cells dest x there all fit = All-set (IsCell w) cells dest _ (record { value = fit; fraction = (all dest (integer (pos 0)) there).fraction }) all

pub zero_fits : (w : WordName) → is_value w (pos 0) ≡ true
zero_fits I8 = refl
zero_fits I16 = refl
zero_fits I32 = refl
zero_fits I64 = refl
zero_fits U8 = refl
zero_fits U16 = refl
zero_fits U32 = refl
zero_fits U64 = refl

pub integer_cell : (w : WordName) (x : ℤ) → is_value w x ≡ true → IsCell w (integer x)
integer_cell w x h = record { value = h; fraction = omega arith }

pub empty_is : (w : WordName) → IsCell w (integer (pos 0))
empty_is w = integer_cell w (pos 0) (zero_fits w)

pub cell_is : (w : WordName) (cells : List Cell) (r : ℕ) → All (IsCell w) cells → IsCell w (cell_at cells r)
cell_is w cells r all = elim (cases_lt r (length cells)) [
  | inl l ↦ all r (integer (pos 0)) l
  | inr g ↦ rw (get_or_past cells r (integer (pos 0)) g) (empty_is w)
]

-- three operands of a word
pub record TakenCells (w : WordName) (t : OperandValues) : Type 0 where
  pub a : IsCell w t.a
  pub b : IsCell w t.b
  pub c : IsCell w t.c

pub taken_cells : (s : State) (dest : ℕ) (policy : Policy) (op : Op) (xs : Operands) (how : Option Rounding) → All (IsCell s.word) s.registers → is_out_of_range s (Apply dest policy op xs how) ≡ false → TakenCells s.word (operand_values s.registers xs)
taken_cells s dest policy op (OneRegister a) how all h = record { a = cell_is s.word s.registers a all; b = empty_is s.word; c = empty_is s.word }
taken_cells s dest policy op (TwoRegisters a b) how all h = record { a = cell_is s.word s.registers a all; b = cell_is s.word s.registers b all; c = empty_is s.word }
taken_cells s dest policy op (RegisterAndInt a k) how all h =
    record { a = cell_is s.word s.registers a all; b = integer_cell s.word k (integer_value s dest policy op a k how h); c = empty_is s.word }
taken_cells s dest policy op (ThreeRegisters a b c) how all h =
    record { a = cell_is s.word s.registers a all; b = cell_is s.word s.registers b all; c = cell_is s.word s.registers c all }

pub apply_offered : (w : WordName) (dest : ℕ) (policy : Policy) (op : Op) (xs : Operands) (how : Option Rounding) → is_unoffered w (Apply dest policy op xs how) ≡ false → is_offered (is_signed w) policy op ≡ true
unfolding is_unoffered
apply_offered w dest policy op xs how h = not_not (is_offered (is_signed w) policy op) h

-- the registers that were taken for a line are those of its operands
pub record Ready (s : State) (policy : Policy) (op : Op) (t : OperandValues) : Type 0 where
  pub offered : is_offered (is_signed s.word) policy op ≡ true
  pub cells : TakenCells s.word t

pub ready : (s : State) (line : ScriptLine) (policy : Policy) (op : Op) (how : Option Rounding) (t : OperandRegisters) → IsApplied line policy op how → PassesTests s line → All (IsCell s.word) s.registers → HoldsOperands s.registers line t → Ready s policy op (values_of t)
ready s (SetTo dest x) policy op how t is tests all tells = absurd is
ready s (Apply dest q r xs m) policy op how t is tests all tells = record {
  offered = apply_offered s.word dest policy op xs m (rw (is.0, is.1) at tests.offered);
  cells = subst (TakenCells s.word) (sym tells) (taken_cells s dest q r xs m all tests.in_range);
}

pub applied_tells : (s : State) (line : ScriptLine) (policy : Policy) (op : Op) (how : Option Rounding) (t : OperandRegisters) (k : ℕ) (r : Result Answer Cause) → IsApplied line policy op how → PassesTests s line → HoldsOperands s.registers line t
    → IsAnswerOfRow (is_signed s.word) (width s.word) policy op (row_by how op (values_of t)) k r → IsAnswerOfLine s line k r
applied_tells s (SetTo dest x) policy op how t k r is tests tells h = absurd is
applied_tells s (Apply dest q o xs m) policy op how t k r is tests tells h =
    apply_tells s (Apply dest q o xs m) dest policy op xs how k r (λ i. Apply dest (is.0 i) (is.1 i) xs (is.2 i)) tests (subst (λ (u : OperandValues). IsAnswerOfRow (is_signed s.word) (width s.word) policy op (row_by how op u) k r) tells h)

pub valued_bits : (w : WordName) (a : Answer) (x : ℤ) → a ≡ Bits x → IsValued w a → is_value w x ≡ true
valued_bits w a x is h = rw is at h

pub valued_flagged : (w : WordName) (a : Answer) (x : ℤ) (b : Bool) → a ≡ Flagged x b → IsValued w a → is_value w x ≡ true
valued_flagged w a x b is h = rw is at h
