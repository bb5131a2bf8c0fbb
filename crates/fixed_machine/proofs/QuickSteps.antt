-- A line that was read quickly: its operands, its tests and its answer.
use Rattle.std.proofs.Common.{pos, ◌≡◌, ◌<◌, ℕ, ℤ, Bool, true, false, nat_le, List, get_or, length, Option, None, Result, Ok, not, refl, ap, ◌∙◌, sym, arith, subst}
use Rattle.std.proofs.lemmas.Bool.Decides.{nat_tests}
use Rattle.std.specs.List.{All}
use Rattle.std.proofs.lemmas.List.{length-map, get_or-map}
use Rattle.fixed_script.specs.declared.line.Arity.{Arity}
use Rattle.fixed_script.specs.declared.line.Arity.TheVariants.{Unary, Binary, ByInteger, Ternary}
use Rattle.fixed_script.specs.Names.{arity}
use Rattle.fixed_script.specs.Text.{SetTo, Apply}
use Rattle.fixed_text.specs.declared.names.WordName.{WordName}
use Rattle.fixed_text.specs.Words.{is_signed, width}
use Rattle.fixed_script.specs.declared.names.Policy.{Policy}
use Rattle.fixed_script.specs.declared.names.Op.{Op}
use Rattle.fixed_script.specs.declared.names.Op.TheVariants.{Neg, Add, Sub, Mul, Div, Recip, MulAdd, AddProd, MulInt, DivInt, DivEuclid, DivEuclidInt, RemEuclidInt, NextMultipleOf, Dist, Sqrt, Abs, Signum, Rem, RemInt, RemEuclid, NextPowerOfTwo}
use Rattle.fixed_machine.specs.declared.answer.Answer.{Answer}
use Rattle.fixed_machine.specs.declared.answer.Answer.TheVariants.{Bits}
use Rattle.fixed_machine.specs.declared.cause.Cause.{Cause}
use Rattle.fixed_machine.specs.declared.quick.QuickLine.{QuickLine}
use Rattle.fixed_machine.specs.declared.register.Register.{Register}
use Rattle.fixed_machine.specs.declared.register.OperandRegisters.{OperandRegisters}
use Rattle.fixed_machine.specs.Rows.{exact}
use Rattle.fixed_script.specs.Offered.{is_offered}
use Rattle.fixed_machine.specs.Machine.{State, Cell, OperandValues, cell_at, is_unoffered, is_out_of_range, is_mismatched, operand_values, row_of, row_by, integer}
use Rattle.fixed_machine.specs.Step.{FitsFormat, IsCell, cell_of, cells_of, state_in}
use Rattle.fixed_machine.specs.inside.Quick.{quick_number, quick_operands}
use Rattle.fixed_machine.specs.inside.QuickSteps.{IsSecond}
use Rattle.fixed_machine.specs.inside.Stepping.{IsAnswerOfLine, IsAnswerOfRow, values_of, is_value}
use Rattle.fixed_machine.proofs.Causes.{PassesTests, apply_tells, set_tells, cell_is, integer_cell}

-- ---- operands
-- of three cells, those that an operation of that arity takes
abbrev pub kept : Arity → Cell → Cell → Cell → OperandValues
kept Unary x y z = record { a = x; b = integer (pos 0); c = integer (pos 0) }
kept Binary x y z = record { a = x; b = y; c = integer (pos 0) }
kept ByInteger x y z = record { a = x; b = y; c = integer (pos 0) }
kept Ternary x y z = record { a = x; b = y; c = z }

-- a row is that of the operands that its operation takes
pub row_kept : (op : Op) (x y z : Cell) → row_of op (record { a = x; b = y; c = z }) ≡ row_of op (kept (arity op) x y z)
unfolding exact
row_kept Neg x y z = refl
row_kept Add x y z = refl
row_kept Sub x y z = refl
row_kept Mul x y z = refl
row_kept Div x y z = refl
row_kept Recip x y z = refl
row_kept MulAdd x y z = refl
row_kept AddProd x y z = refl
row_kept MulInt x y z = refl
row_kept DivInt x y z = refl
row_kept DivEuclid x y z = refl
row_kept DivEuclidInt x y z = refl
row_kept RemEuclidInt x y z = refl
row_kept NextMultipleOf x y z = refl
row_kept Dist x y z = refl
row_kept Sqrt x y z = refl
row_kept Abs x y z = refl
row_kept Signum x y z = refl
row_kept Rem x y z = refl
row_kept RemInt x y z = refl
row_kept RemEuclid x y z = refl
row_kept NextPowerOfTwo x y z = refl

values_kept : (w : WordName) (cells : List Cell) (line : QuickLine) (kind : Arity) (x y z : Cell) → x ≡ cell_at cells line.a → IsSecond (is_signed w) (width w) cells line kind y → z ≡ cell_at cells line.c → kept kind x y z ≡ operand_values cells (quick_operands kind line)
values_kept w cells line Unary x y z ea eb ec = λ i. record { a = ea i; b = integer (pos 0); c = integer (pos 0) }
values_kept w cells line Binary x y z ea eb ec = λ i. record { a = ea i; b = eb i; c = integer (pos 0) }
values_kept w cells line ByInteger x y z ea eb ec = λ i. record { a = ea i; b = eb.0 i; c = integer (pos 0) }
values_kept w cells line Ternary x y z ea eb ec = λ i. record { a = ea i; b = eb i; c = ec i }

pub second_cell : (w : WordName) (cells : List Cell) (line : QuickLine) (kind : Arity) (y : Cell) → All (IsCell w) cells → IsSecond (is_signed w) (width w) cells line kind y → IsCell w y
second_cell w cells line Unary y all e = subst (IsCell w) (sym e) (cell_is w cells line.b all)
second_cell w cells line Binary y all e = subst (IsCell w) (sym e) (cell_is w cells line.b all)
second_cell w cells line ByInteger y all e = subst (IsCell w) (sym e.0) (integer_cell w (quick_number line) e.1)
second_cell w cells line Ternary y all e = subst (IsCell w) (sym e) (cell_is w cells line.b all)

-- what a register that is there holds
pub held_is : (rs : List Register) (r : ℕ) (d : Register) → r < length rs → cell_of (get_or rs r d) ≡ cell_at (cells_of rs) r
held_is rs r d h = sym (get_or-map cell_of rs r d (integer (pos 0)) h)

pub held_cell : (w : WordName) (rs : List Register) (r : ℕ) (d : Register) → All (IsCell w) (cells_of rs) → r < length rs → IsCell w (cell_of (get_or rs r d))
held_cell w rs r d all h = subst (IsCell w) (sym (held_is rs r d h)) (cell_is w (cells_of rs) r all)

-- ---- a word by its format
pub in_format : (s : Bool) (n : ℕ) (w : WordName) (x : Cell) → s ≡ is_signed w → n ≡ width w → IsCell w x → FitsFormat s n x
in_format s n w x e d h = subst (λ (b : Bool). FitsFormat b n x) (sym e) (subst (λ (m : ℕ). FitsFormat (is_signed w) m x) (sym d) h)

row_in_word : (s : Bool) (n : ℕ) (w : WordName) (policy : Policy) (op : Op) (row : Option ℤ) (k : ℕ) (r : Result Answer Cause) → s ≡ is_signed w → n ≡ width w → IsAnswerOfRow s n policy op row k r → IsAnswerOfRow (is_signed w) (width w) policy op row k r
row_in_word s n w policy op row k r e d h = subst (λ (m : ℕ). IsAnswerOfRow (is_signed w) m policy op row k r) d (subst (λ (b : Bool). IsAnswerOfRow b n policy op row k r) e h)

pub second_in_word : (s : Bool) (n : ℕ) (w : WordName) (cells : List Cell) (line : QuickLine) (kind : Arity) (y : Cell) → s ≡ is_signed w → n ≡ width w → IsSecond s n cells line kind y → IsSecond (is_signed w) (width w) cells line kind y
second_in_word s n w cells line kind y e d h = subst (λ (m : ℕ). IsSecond (is_signed w) m cells line kind y) d (subst (λ (b : Bool). IsSecond b n cells line kind y) e h)

-- ---- tests
-- all registers of a line are there
pub record AreThere (cells : List Cell) (line : QuickLine) : Type 0 where
  pub dest : line.dest < length cells
  pub a : line.a < length cells
  pub b : line.b < length cells
  pub c : line.c < length cells

pub are_there : (rs : List Register) (line : QuickLine) → line.dest < length rs → line.a < length rs → line.b < length rs → line.c < length rs → AreThere (cells_of rs) line
are_there rs line dest a b c =
    record { dest = omega (arith, length-map rs cell_of, dest); a = omega (arith, length-map rs cell_of, a); b = omega (arith, length-map rs cell_of, b); c = omega (arith, length-map rs cell_of, c) }

there : (n r : ℕ) → r < n → nat_le n r ≡ false
there n r h = grind (arith, nat_tests)

in_range : (w : WordName) (cells : List Cell) (line : QuickLine) (policy : Policy) (op : Op) (kind : Arity) (y : Cell) → AreThere cells line → IsSecond (is_signed w) (width w) cells line kind y → is_out_of_range (state_in w cells) (Apply line.dest policy op (quick_operands kind line) None) ≡ false
unfolding is_out_of_range
in_range w cells line policy op Unary y t e = rw (there (length cells) line.dest t.dest, there (length cells) line.a t.a) refl
in_range w cells line policy op Binary y t e = rw (there (length cells) line.dest t.dest, there (length cells) line.a t.a, there (length cells) line.b t.b) refl
in_range w cells line policy op ByInteger y t e = rw (there (length cells) line.dest t.dest, there (length cells) line.a t.a, e.1) refl
in_range w cells line policy op Ternary y t e = rw (there (length cells) line.dest t.dest, there (length cells) line.a t.a, there (length cells) line.b t.b, there (length cells) line.c t.c) refl

offered : (w : WordName) (line : QuickLine) (policy : Policy) (op : Op) → is_offered (is_signed w) policy op ≡ true → is_unoffered w (Apply line.dest policy op (quick_operands (arity op) line) None) ≡ false
unfolding is_unoffered
offered w line policy op h = ap not h

-- ---- answers
pub applied_answer : (s : Bool) (n : ℕ) (w : WordName) (cells : List Cell) (line : QuickLine) (policy : Policy) (op : Op) (t : OperandRegisters) (k : ℕ) (a : Answer) → s ≡ is_signed w → n ≡ width w → AreThere cells line
    → is_offered (is_signed w) policy op ≡ true → is_mismatched (state_in w cells) (Apply line.dest policy op (quick_operands (arity op) line) None) ≡ false
    → cell_of t.a ≡ cell_at cells line.a → IsSecond (is_signed w) (width w) cells line (arity op) (cell_of t.b) → cell_of t.c ≡ cell_at cells line.c
    → IsAnswerOfRow s n policy op (row_by None op (values_of t)) k (Ok a) → IsAnswerOfLine (state_in w cells) (Apply line.dest policy op (quick_operands (arity op) line) None) k (Ok a)
applied_answer s n w cells line policy op t k a e d all is_offered matched ea eb ec h =
    let xs = quick_operands (arity op) line in
    let passes : PassesTests (state_in w cells) (Apply line.dest policy op xs None) =
    record { offered = offered w line policy op is_offered; in_range = in_range w cells line policy op (arity op) (cell_of t.b) all eb; one_fraction = matched } in
    let row : row_by None op (values_of t) ≡ row_by None op (operand_values cells xs) =
    row_kept op (cell_of t.a) (cell_of t.b) (cell_of t.c) ∙ ap (row_of op) (values_kept w cells line (arity op) (cell_of t.a) (cell_of t.b) (cell_of t.c) ea eb ec) in
    apply_tells (state_in w cells) (Apply line.dest policy op xs None) line.dest policy op xs None k (Ok a) refl passes
    (subst (λ (o : Option ℤ). IsAnswerOfRow (is_signed w) (width w) policy op o k (Ok a)) row (row_in_word s n w policy op (row_by None op (values_of t)) k (Ok a) e d h))

set_range : (w : WordName) (cells : List Cell) (dest : ℕ) (x : ℤ) → dest < length cells → is_value w x ≡ true → is_out_of_range (state_in w cells) (SetTo dest x) ≡ false
unfolding is_out_of_range
set_range w cells dest x t e = rw (there (length cells) dest t, e) refl

set_offered : (w : WordName) (dest : ℕ) (x : ℤ) → is_unoffered w (SetTo dest x) ≡ false
unfolding is_unoffered
set_offered w dest x = refl

set_matched : (s : State) (dest : ℕ) (x : ℤ) → is_mismatched s (SetTo dest x) ≡ false
unfolding is_mismatched
set_matched s dest x = refl

pub set_answer_quickly : (w : WordName) (cells : List Cell) (dest : ℕ) (x : ℤ) (k : ℕ) → dest < length cells → is_value w x ≡ true → IsAnswerOfLine (state_in w cells) (SetTo dest x) k (Ok (Bits x))
set_answer_quickly w cells dest x k t e =
    set_tells (state_in w cells) (SetTo dest x) dest x k refl (record { offered = set_offered w dest x; in_range = set_range w cells dest x t e; one_fraction = set_matched (state_in w cells) dest x })
