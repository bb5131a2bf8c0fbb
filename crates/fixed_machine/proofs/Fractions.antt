-- Registers of one number of fraction bits, which a line keeps.
use Rattle.std.proofs.Common.{◌≡◌, ◌<◌, ◌==◌, ◌∙◌, ℕ, pos, true, false, not, List, [], ◌∷◌, get_or, length, Option, Some, None, Ok, refl, ap, sym, arith}
use Rattle.std.specs.List.{All, list_all, slice_get}
use Rattle.std.proofs.lemmas.List.Elements.{All-nil, All-cons}
use Rattle.std.proofs.lemmas.Bool.{eqb-true}
use Rattle.fixed_digits.proofs.Decimals.{both}
use Rattle.fixed_machine.specs.declared.register.Register.{Register}
use Rattle.std.proofs.Math.Seq.{map-set_same}
use Rattle.std.proofs.lemmas.List.{get_or-map, length-map}
use Rattle.std.proofs.lemmas.Bool.Decides.{nat_tests}
use Rattle.fixed_text.specs.declared.names.WordName.{WordName}
use Rattle.fixed_script.specs.declared.names.Policy.{Policy}
use Rattle.fixed_script.specs.declared.names.Op.{Op}
use Rattle.fixed_script.specs.declared.names.Op.TheVariants.{Neg, Add, Sub, Mul, Div, Recip, MulAdd, AddProd, MulInt, DivInt, DivEuclid, DivEuclidInt, RemEuclidInt, NextMultipleOf, Dist, Sqrt, Abs, Signum, Rem, RemInt, RemEuclid, NextPowerOfTwo}
use Rattle.fixed_script.specs.Names.{arity}
use Rattle.fixed_script.specs.Text.{ScriptLine, Apply}
use Rattle.fixed_machine.specs.declared.answer.Answer.{Answer}
use Rattle.fixed_machine.specs.declared.answer.Answer.TheVariants.{Absent, Bits, Flagged}
use Rattle.fixed_machine.specs.declared.quick.QuickLine.{QuickLine}
use Rattle.fixed_machine.specs.Machine.{State, Cell, cell_at, destination, answer, stored, is_mismatched, integer}
use Rattle.fixed_machine.specs.Step.{IsStepOfLine, cells_of, state_in}
use Rattle.fixed_machine.specs.inside.Quick.{quick_operands}
use Rattle.fixed_machine.specs.inside.QuickSteps.{AreEqual, fractions_in}
use Rattle.fixed_machine.proofs.QuickSteps.{AreThere}

-- ---- a line keeps them
stored_fractions : (cells : List Cell) (dest : ℕ) (a : Answer) → fractions_in (stored cells dest a) ≡ fractions_in cells
stored_fractions cells dest Absent = refl
stored_fractions cells dest (Bits x) = map-set_same (λ (cell : Cell). cell.fraction) cells dest _ (integer (pos 0)) refl
stored_fractions cells dest (Flagged x verdict) = map-set_same (λ (cell : Cell). cell.fraction) cells dest _ (integer (pos 0)) refl

pub step_fractions : (s : State) (line : Option ScriptLine) (k : ℕ) (a : Answer) (cells : List Cell) → IsStepOfLine s line k (Ok a) cells → fractions_in cells ≡ fractions_in s.registers
step_fractions s None k a cells step = absurd step
step_fractions s (Some line) k a cells step = ap fractions_in step.2 ∙ stored_fractions s.registers (destination line) (answer s line)

-- ---- all registers of one
each_is : (rs : List Register) (f : ℕ) → list_all (λ (r : Register). r.fraction == f) rs ≡ true → All (λ n. n ≡ f) (fractions_in (cells_of rs))
each_is [] f all = All-nil (λ n. n ≡ f)
each_is (r ∷ rs) f all =
    let parts = both (r.fraction == f) (list_all (λ (r : Register). r.fraction == f) rs) all in
    All-cons (λ n. n ≡ f) r.fraction (fractions_in (cells_of rs)) (eqb-true r.fraction f parts.0) (each_is rs f parts.1)

pub equal_where : (rs : List Register) (f : ℕ) → list_all (λ (r : Register). r.fraction == f) rs ≡ true → AreEqual (fractions_in (cells_of rs))
equal_where rs f all = λ i d there. each_is rs f all i d there ∙ sym (each_is rs f all 0 0 (omega (arith, there)))

pub equal_of_none : (rs : List Register) → slice_get rs 0 ≡ None → AreEqual (fractions_in (cells_of rs))
equal_of_none [] none = λ i d there. absurd (omega (arith, there))
equal_of_none (r ∷ rs) none = cc

-- ---- a line has no operand of another one
fraction_is : (cells : List Cell) (r : ℕ) → AreEqual (fractions_in cells) → r < length cells → (cell_at cells r).fraction ≡ get_or (fractions_in cells) 0 0
fraction_is cells r equal there =
    sym (get_or-map (λ (cell : Cell). cell.fraction) cells r (integer (pos 0)) 0 there) ∙ equal r 0 (omega (arith, there, length-map cells (λ (cell : Cell). cell.fraction)))

same_fraction : (cells : List Cell) (r d : ℕ) → AreEqual (fractions_in cells) → r < length cells → d < length cells → not ((cell_at cells r).fraction == (cell_at cells d).fraction) ≡ false
same_fraction cells r d equal there here =
    let same : (cell_at cells r).fraction ≡ (cell_at cells d).fraction = fraction_is cells r equal there ∙ sym (fraction_is cells d equal here) in
    grind (arith, nat_tests)

pub all_matched : (w : WordName) (cells : List Cell) (line : QuickLine) (policy : Policy) (op : Op) → AreEqual (fractions_in cells) → AreThere cells line
    → is_mismatched (state_in w cells) (Apply line.dest policy op (quick_operands (arity op) line) None) ≡ false
unfolding is_mismatched
all_matched w cells line policy Neg equal all = rw (same_fraction cells line.a line.dest equal all.a all.dest) refl
all_matched w cells line policy Add equal all = rw (same_fraction cells line.a line.dest equal all.a all.dest, same_fraction cells line.b line.dest equal all.b all.dest) refl
all_matched w cells line policy Sub equal all = rw (same_fraction cells line.a line.dest equal all.a all.dest, same_fraction cells line.b line.dest equal all.b all.dest) refl
all_matched w cells line policy Mul equal all = rw (same_fraction cells line.a line.dest equal all.a all.dest, same_fraction cells line.b line.dest equal all.b all.dest) refl
all_matched w cells line policy Div equal all = rw (same_fraction cells line.a line.dest equal all.a all.dest, same_fraction cells line.b line.dest equal all.b all.dest) refl
all_matched w cells line policy Recip equal all = rw (same_fraction cells line.a line.dest equal all.a all.dest) refl
all_matched w cells line policy MulAdd equal all = rw (same_fraction cells line.a line.dest equal all.a all.dest, same_fraction cells line.c line.dest equal all.c all.dest) refl
all_matched w cells line policy AddProd equal all = rw (same_fraction cells line.a line.dest equal all.a all.dest) refl
all_matched w cells line policy MulInt equal all = rw (same_fraction cells line.a line.dest equal all.a all.dest) refl
all_matched w cells line policy DivInt equal all = rw (same_fraction cells line.a line.dest equal all.a all.dest) refl
all_matched w cells line policy DivEuclid equal all = rw (same_fraction cells line.a line.dest equal all.a all.dest, same_fraction cells line.b line.dest equal all.b all.dest) refl
all_matched w cells line policy DivEuclidInt equal all = rw (same_fraction cells line.a line.dest equal all.a all.dest) refl
all_matched w cells line policy RemEuclidInt equal all = rw (same_fraction cells line.a line.dest equal all.a all.dest) refl
all_matched w cells line policy NextMultipleOf equal all = rw (same_fraction cells line.a line.dest equal all.a all.dest, same_fraction cells line.b line.dest equal all.b all.dest) refl
all_matched w cells line policy Dist equal all = rw (same_fraction cells line.a line.dest equal all.a all.dest, same_fraction cells line.b line.dest equal all.b all.dest) refl
all_matched w cells line policy Sqrt equal all = rw (same_fraction cells line.a line.dest equal all.a all.dest) refl
all_matched w cells line policy Abs equal all = rw (same_fraction cells line.a line.dest equal all.a all.dest) refl
all_matched w cells line policy Signum equal all = rw (same_fraction cells line.a line.dest equal all.a all.dest) refl
all_matched w cells line policy Rem equal all = rw (same_fraction cells line.a line.dest equal all.a all.dest, same_fraction cells line.b line.dest equal all.b all.dest) refl
all_matched w cells line policy RemInt equal all = rw (same_fraction cells line.a line.dest equal all.a all.dest) refl
all_matched w cells line policy RemEuclid equal all = rw (same_fraction cells line.a line.dest equal all.a all.dest, same_fraction cells line.b line.dest equal all.b all.dest) refl
all_matched w cells line policy NextPowerOfTwo equal all = rw (same_fraction cells line.a line.dest equal all.a all.dest) refl
