-- The lines of a demonstration: each is a line, in one piece, and has no cause where its eight registers have one fraction.
use Rattle.std.proofs.Common.{◌≡◌, ◌^◌, ◌<◌, ◌==◌, ℕ, Bool, ℤ, zero, suc, pos, true, false, not, nat_le, List, [], ◌∷◌, length, Option, Some, None, refl, ◌∙◌, arith}
use Rattle.std.specs.Bool.{⊤}
use Rattle.std.specs.List.{All}
use Rattle.std.proofs.lemmas.Bool.Decides.{nat_tests}
use Rattle.std.proofs.lemmas.Int.{ints}
use Rattle.std.proofs.lemmas.List.Elements.{All-nil, All-cons, All-append, All-set}
use Rattle.std.proofs.lemmas.Nat.{shr_below}
use Rattle.std.proofs.Math.ListN.{length-set}
use Rattle.fixed_text.specs.declared.names.WordName.TheVariants.{I64}
use Rattle.fixed_script.specs.declared.names.Policy.{Policy}
use Rattle.fixed_script.specs.declared.names.Policy.TheVariants.{Checked, Saturating, Wrapping, Overflowing}
use Rattle.fixed_script.specs.declared.names.Op.{Op}
use Rattle.fixed_script.specs.declared.names.Op.TheVariants.{Add, Sub, Mul, Div, MulAdd, AddProd, Sqrt}
use Rattle.fixed_machine.specs.declared.answer.Answer.{Answer}
use Rattle.fixed_machine.specs.declared.answer.Answer.TheVariants.{Absent, Bits, Flagged}
use Rattle.fixed_script.specs.Names.{arity}
use Rattle.fixed_script.specs.Text.{ScriptLine, SetTo, Apply, Operands, OneRegister, TwoRegisters, ThreeRegisters, IsLine, arity_of, line_text}
use Rattle.fixed_machine.specs.Rows.{exact}
use Rattle.fixed_script.specs.Offered.{is_offered}
use Rattle.fixed_text.specs.Words.{is_signed, width}
use Rattle.fixed_machine.specs.Machine.{State, Cell, cell_at, destination, is_unoffered, is_out_of_range, is_mismatched, row_by, operand_values, row_cause, late_cause_by, cause, stored, answer, move, integer}
use Rattle.fixed_calc.specs.inside.Draws.{draw}
use Rattle.fixed_calc.specs.Demo.{state_at, octal_digit, choices, drawn_line, demo_lines}
use Rattle.fixed_machine.proofs.Lacks.{line_lacks}
use Rattle.fixed_machine.proofs.Causes.{PassesTests, after_tests}
use Rattle.fixed_machine.proofs.Fits.{fit_true}
use Rattle.fixed_digits.proofs.Lacking.{lacks}
use Rattle.fixed_machine.specs.inside.Stepping.{is_value}

-- ---- the draws
pub state_small : (i : ℕ) → state_at i < 2 ^ 64
unfolding state_at
state_small zero = omega arith
state_small (suc i) = omega arith

pub draw_small : (i : ℕ) → draw (state_at i) < 2 ^ 31
draw_small i = shr_below (state_at i) 31 33 (state_small i)

digit_small : (t i : ℕ) → octal_digit t i < 8
digit_small t i = omega arith

-- ---- states with eight registers of one fraction
pub record IsReady (s : State) : Type 0 where
  pub word : s.word ≡ I64
  pub eight : length s.registers ≡ 8
  pub fractions : All (λ (c : Cell). c.fraction ≡ 32) s.registers

fraction_is : (s : State) (r : ℕ) → IsReady s → r < 8 → (cell_at s.registers r).fraction ≡ 32
fraction_is s r ready small = ready.fractions r (integer (pos 0)) (omega (arith, ready.eight))

same_fraction : (s : State) (r d : ℕ) → IsReady s → r < 8 → d < 8 → not ((cell_at s.registers r).fraction == (cell_at s.registers d).fraction) ≡ false
same_fraction s r d ready small there = rw (fraction_is s r ready small, fraction_is s d ready there) refl

declared_is : (s : State) (r : ℕ) → IsReady s → r < 8 → nat_le (length s.registers) r ≡ false
declared_is s r ready small = let eight = ready.eight in grind (arith, nat_tests)

-- what a line leaves of such a state is such a state
stored_eight : (cells : List Cell) (d : ℕ) (a : Answer) → length (stored cells d a) ≡ length cells
stored_eight cells d Absent = refl
stored_eight cells d (Bits x) = length-set cells d _
stored_eight cells d (Flagged x verdict) = length-set cells d _

stored_fractions : (cells : List Cell) (d : ℕ) (a : Answer) → (cell_at cells d).fraction ≡ 32 → All (λ (c : Cell). c.fraction ≡ 32) cells → All (λ (c : Cell). c.fraction ≡ 32) (stored cells d a)
stored_fractions cells d Absent there all = all
stored_fractions cells d (Bits x) there all = All-set (λ (c : Cell). c.fraction ≡ 32) cells d _ there all
stored_fractions cells d (Flagged x verdict) there all = All-set (λ (c : Cell). c.fraction ≡ 32) cells d _ there all

pub stays_ready : (s : State) (l : ScriptLine) → IsReady s → destination l < 8 → IsReady (move s l)
stays_ready s l ready there = record {
  word = ready.word;
  eight = stored_eight s.registers (destination l) (answer s l) ∙ ready.eight;
  fractions = stored_fractions s.registers (destination l) (answer s l) (fraction_is s (destination l) ready there) ready.fractions;
}

-- ---- such a line
pub record IsDrawn (l : ScriptLine) : Type 0 where
  pub is_line : IsLine l
  pub one_piece : lacks 10 (line_text l) ≡ true
  pub there : destination l < 8
  pub no_cause : (s : State) (k : ℕ) → IsReady s → cause s l k ≡ None

literal_fits : (t : ℕ) → t < 2 ^ 31 → is_value I64 (pos t) ≡ true
literal_fits t small = fit_true true 64 (pos t) (omega (arith, ints), omega (arith, ints))

set_tests : (s : State) (d t : ℕ) → IsReady s → d < 8 → t < 2 ^ 31 → PassesTests s (SetTo d (pos t))
unfolding is_unoffered is_out_of_range is_mismatched
set_tests s d t ready there small = record {
  offered = refl;
  in_range = rw (declared_is s d ready there, ready.word, literal_fits t small) refl;
  one_fraction = refl;
}

one_tests : (s : State) (d a : ℕ) (policy : Policy) (op : Op) → is_offered true policy op ≡ true → IsReady s → d < 8 → a < 8 → PassesTests s (Apply d policy op (OneRegister a) None)
unfolding is_unoffered is_out_of_range is_mismatched
one_tests s d a policy op offered ready there first = record {
  offered = rw (ready.word, offered) refl;
  in_range = rw (declared_is s d ready there, declared_is s a ready first) refl;
  one_fraction = rw (same_fraction s a d ready first there) refl;
}

two_tests : (s : State) (d a b : ℕ) (policy : Policy) (op : Op) → is_offered true policy op ≡ true → IsReady s → d < 8 → a < 8 → b < 8 → PassesTests s (Apply d policy op (TwoRegisters a b) None)
unfolding is_unoffered is_out_of_range is_mismatched
two_tests s d a b policy op offered ready there first second = record {
  offered = rw (ready.word, offered) refl;
  in_range = rw (declared_is s d ready there, declared_is s a ready first, declared_is s b ready second) refl;
  one_fraction = rw (same_fraction s a d ready first there, same_fraction s b d ready second there) refl;
}

mul_add_tests : (s : State) (d a b c : ℕ) → IsReady s → d < 8 → a < 8 → b < 8 → c < 8 → PassesTests s (Apply d Wrapping MulAdd (ThreeRegisters a b c) None)
unfolding is_unoffered is_out_of_range is_mismatched is_offered
mul_add_tests s d a b c ready there first second third = record {
  offered = refl;
  in_range = rw (declared_is s d ready there, declared_is s a ready first, declared_is s b ready second, declared_is s c ready third) refl;
  one_fraction = rw (same_fraction s a d ready first there, same_fraction s c d ready third there) refl;
}

add_prod_tests : (s : State) (d a b c : ℕ) → IsReady s → d < 8 → a < 8 → b < 8 → c < 8 → PassesTests s (Apply d Overflowing AddProd (ThreeRegisters a b c) None)
unfolding is_unoffered is_out_of_range is_mismatched is_offered
add_prod_tests s d a b c ready there first second third = record {
  offered = refl;
  in_range = rw (declared_is s d ready there, declared_is s a ready first, declared_is s b ready second, declared_is s c ready third) refl;
  one_fraction = rw (same_fraction s a d ready first there) refl;
}

-- the only rows that may be undefined are under checked
add_total : (s : State) (d a b k : ℕ) → late_cause_by row_by s (Apply d Wrapping Add (TwoRegisters a b) None) k ≡ None
unfolding row_cause exact
add_total s d a b k = refl

sub_total : (s : State) (d a b k : ℕ) → late_cause_by row_by s (Apply d Overflowing Sub (TwoRegisters a b) None) k ≡ None
unfolding row_cause exact
sub_total s d a b k = refl

mul_total : (s : State) (d a b k : ℕ) → late_cause_by row_by s (Apply d Saturating Mul (TwoRegisters a b) None) k ≡ None
unfolding row_cause exact
mul_total s d a b k = refl

mul_add_total : (s : State) (d a b c k : ℕ) → late_cause_by row_by s (Apply d Wrapping MulAdd (ThreeRegisters a b c) None) k ≡ None
unfolding row_cause exact
mul_add_total s d a b c k = refl

add_prod_total : (s : State) (d a b c k : ℕ) → late_cause_by row_by s (Apply d Overflowing AddProd (ThreeRegisters a b c) None) k ≡ None
unfolding row_cause exact
add_prod_total s d a b c k = refl

checked_none : (signed : Bool) (n : ℕ) (row : Option ℤ) (op : Op) (k : ℕ) → row_cause signed n Checked row op k ≡ None
unfolding row_cause
checked_none signed n None op k = refl
checked_none signed n (Some x) op k = refl

checked_total : (s : State) (d : ℕ) (op : Op) (xs : Operands) (k : ℕ) → late_cause_by row_by s (Apply d Checked op xs None) k ≡ None
checked_total s d op xs k = checked_none (is_signed s.word) (width s.word) (row_by None op (operand_values s.registers xs)) op k

-- ---- the lines that are drawn
set_drawn : (d t : ℕ) → d < 8 → t < 2 ^ 31 → IsDrawn (SetTo d (pos t))
set_drawn d t there small = record {
  is_line = tt;
  one_piece = line_lacks (SetTo d (pos t));
  there = there;
  no_cause = λ s k ready. after_tests s (SetTo d (pos t)) k (set_tests s d t ready there small);
}

apply_drawn : (d : ℕ) (policy : Policy) (op : Op) (xs : Operands) → arity op ≡ arity_of xs → d < 8
    → ((s : State) → IsReady s → PassesTests s (Apply d policy op xs None)) → ((s : State) (k : ℕ) → late_cause_by row_by s (Apply d policy op xs None) k ≡ None) → IsDrawn (Apply d policy op xs None)
apply_drawn d policy op xs shaped there tests total = record {
  is_line = (shaped, refl);
  one_piece = line_lacks (Apply d policy op xs None);
  there = there;
  no_cause = λ s k ready. after_tests s (Apply d policy op xs None) k (tests s ready) ∙ total s k;
}

-- each line of a list is such a line
abbrev AreDrawn : List ScriptLine → Type 0
AreDrawn [] = ⊤
AreDrawn (l ∷ ls) = IsDrawn l × AreDrawn ls

all_drawn : (ls : List ScriptLine) → AreDrawn ls → All IsDrawn ls
all_drawn [] each = All-nil IsDrawn
all_drawn (l ∷ ls) each = All-cons IsDrawn l ls each.0 (all_drawn ls each.1)

choices_drawn : (t d a b : ℕ) → t < 2 ^ 31 → d < 8 → a < 8 → b < 8 → AreDrawn (choices t d a b)
unfolding is_offered
choices_drawn t d a b small there first second =
    let two = TwoRegisters a b in
    let set = set_drawn d t there small in
    let add = apply_drawn d Wrapping Add two refl there (λ s ready. two_tests s d a b Wrapping Add refl ready there first second) (λ s k. add_total s d a b k) in
    let sub = apply_drawn d Overflowing Sub two refl there (λ s ready. two_tests s d a b Overflowing Sub refl ready there first second) (λ s k. sub_total s d a b k) in
    let mul = apply_drawn d Saturating Mul two refl there (λ s ready. two_tests s d a b Saturating Mul refl ready there first second) (λ s k. mul_total s d a b k) in
    let div = apply_drawn d Checked Div two refl there (λ s ready. two_tests s d a b Checked Div refl ready there first second) (λ s k. checked_total s d Div two k) in
    let mul_add = apply_drawn d Wrapping MulAdd (ThreeRegisters a b d) refl there (λ s ready. mul_add_tests s d a b d ready there first second there) (λ s k. mul_add_total s d a b d k) in
    let add_prod = apply_drawn d Overflowing AddProd (ThreeRegisters d a b) refl there (λ s ready. add_prod_tests s d d a b ready there there first second) (λ s k. add_prod_total s d d a b k) in
    let sqrt = apply_drawn d Checked Sqrt (OneRegister a) refl there (λ s ready. one_tests s d a Checked Sqrt refl ready there first) (λ s k. checked_total s d Sqrt (OneRegister a) k) in
    (set, (add, (sub, (mul, (div, (mul_add, (add_prod, (sqrt, tt))))))))

drawn : (t : ℕ) → t < 2 ^ 31 → IsDrawn (drawn_line t)
unfolding drawn_line
drawn t small =
    let d = octal_digit t 0 in
    let a = octal_digit t 1 in
    let b = octal_digit t 2 in
    all_drawn (choices t d a b) (choices_drawn t d a b small (digit_small t 0) (digit_small t 1) (digit_small t 2)) (octal_digit t 3) (SetTo d (pos t)) (digit_small t 3)

pub lines_drawn : (n : ℕ) → All IsDrawn (demo_lines n)
unfolding demo_lines
lines_drawn zero = All-nil IsDrawn
lines_drawn (suc i) =
    let t = draw (state_at (suc i)) in
    All-append IsDrawn (demo_lines i) (drawn_line t ∷ []) (lines_drawn i) (All-cons IsDrawn (drawn_line t) [] (drawn t (draw_small (suc i))) (All-nil IsDrawn))
