-- A line and its capped form have one cause and one move.
use Rattle.std.proofs.Common.{◌≡◌, ◌^◌, ◌<◌, ◌≤◌, ℕ, suc, ℤ, pos, negsuc, neg_ℤ, Bool, true, false, not, ◌||◌, nat_le, unsigned_abs, List, length, Option, Some, if◌then◌else◌, Result, Ok, Err, subst, refl, sym, ap, ◌∙◌, arith}
use Rattle.std.proofs.lemmas.Int.{ints}
use Rattle.std.proofs.lemmas.Bool.Decides.{nat_tests}
use Rattle.fixed_text.specs.declared.names.WordName.{WordName}
use Rattle.fixed_script.specs.Text.{ScriptLine, SetTo, Apply, OneRegister, TwoRegisters, RegisterAndInt, ThreeRegisters}
use Rattle.fixed_digits.specs.Numerals.{cap}
use Rattle.fixed_script.specs.Capped.{cap_whole, capped}
use Rattle.fixed_machine.specs.Machine.{State, Cell, cause, answer, move, late_cause_by, is_unoffered, is_out_of_range, is_mismatched, row_by}
use Rattle.fixed_machine.specs.CapLaw.{CapsAlike}
use Rattle.fixed_machine.specs.Step.{IsStepOfLine}
use Rattle.fixed_machine.specs.declared.answer.Answer.{Answer}
use Rattle.fixed_machine.specs.declared.cause.Cause.{Cause}
use Rattle.fixed_machine.specs.declared.cause.Cause.TheVariants.{Syntax, OutOfRange, FractionMismatch}
use Rattle.fixed_machine.proofs.Fits.{value_small}
use Rattle.fixed_machine.proofs.Causes.{no_cause, either_false, set_value, integer_value}
use Rattle.fixed_machine.specs.inside.Stepping.{is_value}

cap_missing : (n r : ℕ) → n ≤ 2 ^ 64 → nat_le n (cap r) ≡ nat_le n r
cap_missing n r h = grind (arith, nat_tests)

cap_there : (n r : ℕ) → n ≤ 2 ^ 64 → nat_le n r ≡ false → cap r ≡ r
cap_there n r h e = grind (arith, nat_tests)

cap_small : (k : ℤ) → unsigned_abs k < 2 ^ 64 → cap_whole k ≡ k
cap_small (pos n) h = ap pos (small n h)
  where
    small : (m : ℕ) → m < 2 ^ 64 → cap m ≡ m
    small m h = omega arith
cap_small (negsuc n) h = ap (λ (m : ℕ). neg_ℤ (pos m)) (small (suc n) h)
  where
    small : (m : ℕ) → m < 2 ^ 64 → cap m ≡ m
    small m h = omega arith

below_cap : (k : ℤ) → unsigned_abs (cap_whole k) < 2 ^ 64 → unsigned_abs k < 2 ^ 64
below_cap (pos n) h = omega arith
below_cap (negsuc n) h = omega (arith, ints)

cap_value : (w : WordName) (k : ℤ) → is_value w (cap_whole k) ≡ is_value w k
cap_value w k = by_tests (is_value w k) (is_value w (cap_whole k)) refl refl
  where
    by_tests : (a b : Bool) → is_value w k ≡ a → is_value w (cap_whole k) ≡ b → is_value w (cap_whole k) ≡ is_value w k
    by_tests true b e f = ap (is_value w) (cap_small k (value_small w k e))
    by_tests false false e f = f ∙ sym e
    by_tests false true e f =
        let small = value_small w (cap_whole k) f in
        let below : unsigned_abs k < 2 ^ 64 = below_cap k small in
        ap (is_value w) (cap_small k below)

same_range : (s : State) (l : ScriptLine) → length s.registers ≤ 2 ^ 64 → is_out_of_range s (capped l) ≡ is_out_of_range s l
unfolding is_out_of_range
same_range s (SetTo dest k) h = rw (cap_missing (length s.registers) dest h, cap_value s.word k) refl
same_range s (Apply dest policy op (OneRegister a) how) h = rw (cap_missing (length s.registers) dest h, cap_missing (length s.registers) a h) refl
same_range s (Apply dest policy op (TwoRegisters a b) how) h = rw (cap_missing (length s.registers) dest h, cap_missing (length s.registers) a h, cap_missing (length s.registers) b h) refl
same_range s (Apply dest policy op (RegisterAndInt a k) how) h = rw (cap_missing (length s.registers) dest h, cap_missing (length s.registers) a h, cap_value s.word k) refl
same_range s (Apply dest policy op (ThreeRegisters a b c) how) h =
    rw (cap_missing (length s.registers) dest h, cap_missing (length s.registers) a h, cap_missing (length s.registers) b h, cap_missing (length s.registers) c h) refl

-- a line in range is its capped form
same_line : (s : State) (l : ScriptLine) → length s.registers ≤ 2 ^ 64 → is_out_of_range s l ≡ false → capped l ≡ l
unfolding is_out_of_range
same_line s (SetTo dest k) h e =
    let n = length s.registers in
    let p = either_false (nat_le n dest || false) (not (is_value s.word k) || false) e in
    let q = either_false (nat_le n dest) false p.0 in
    rw (cap_there n dest h q.0, cap_small k (value_small s.word k (set_value s dest k e))) refl
same_line s (Apply dest policy op (OneRegister a) how) h e =
    let n = length s.registers in
    let p = either_false (nat_le n dest || (nat_le n a || false)) false e in
    let q = either_false (nat_le n dest) (nat_le n a || false) p.0 in
    let r = either_false (nat_le n a) false q.1 in
    rw (cap_there n dest h q.0, cap_there n a h r.0) refl
same_line s (Apply dest policy op (TwoRegisters a b) how) h e =
    let n = length s.registers in
    let p = either_false (nat_le n dest || (nat_le n a || (nat_le n b || false))) false e in
    let q = either_false (nat_le n dest) (nat_le n a || (nat_le n b || false)) p.0 in
    let r = either_false (nat_le n a) (nat_le n b || false) q.1 in
    let t = either_false (nat_le n b) false r.1 in
    rw (cap_there n dest h q.0, cap_there n a h r.0, cap_there n b h t.0) refl
same_line s (Apply dest policy op (RegisterAndInt a k) how) h e =
    let n = length s.registers in
    let p = either_false (nat_le n dest || (nat_le n a || false)) (not (is_value s.word k) || false) e in
    let q = either_false (nat_le n dest) (nat_le n a || false) p.0 in
    let r = either_false (nat_le n a) false q.1 in
    rw (cap_there n dest h q.0, cap_there n a h r.0, cap_small k (value_small s.word k (integer_value s dest policy op a k how e))) refl
same_line s (Apply dest policy op (ThreeRegisters a b c) how) h e =
    let n = length s.registers in
    let p = either_false (nat_le n dest || (nat_le n a || (nat_le n b || (nat_le n c || false)))) false e in
    let q = either_false (nat_le n dest) (nat_le n a || (nat_le n b || (nat_le n c || false))) p.0 in
    let r = either_false (nat_le n a) (nat_le n b || (nat_le n c || false)) q.1 in
    let t = either_false (nat_le n b) (nat_le n c || false) r.1 in
    let u = either_false (nat_le n c) false t.1 in
    rw (cap_there n dest h q.0, cap_there n a h r.0, cap_there n b h t.0, cap_there n c h u.0) refl

same_offer : (w : WordName) (l : ScriptLine) → is_unoffered w (capped l) ≡ is_unoffered w l
unfolding is_unoffered
same_offer w (SetTo dest k) = refl
same_offer w (Apply dest policy op xs how) = refl

-- what comes after a test that holds is not looked at
blocked : (k : ℕ) (u o : Bool) (x y : Option Cause) → o ≡ true → (if u then Some (Syntax k) else if o then Some (OutOfRange k) else x) ≡ (if u then Some (Syntax k) else if o then Some (OutOfRange k) else y)
blocked k u o x y e = rw e refl

same_cause : (s : State) (l : ScriptLine) (k : ℕ) → length s.registers ≤ 2 ^ 64 → cause s (capped l) k ≡ cause s l k
same_cause s l k h = by_range (is_out_of_range s l) refl
  where
    by_range : (b : Bool) → is_out_of_range s l ≡ b → cause s (capped l) k ≡ cause s l k
    by_range false e = ap (λ (m : ScriptLine). cause s m k) (same_line s l h e)
    by_range true e =
        rw (same_offer s.word l, same_range s l h)
        (blocked k (is_unoffered s.word l) (is_out_of_range s l) (if is_mismatched s (capped l) then Some (FractionMismatch k) else late_cause_by row_by s (capped l) k)
        (if is_mismatched s l then Some (FractionMismatch k) else late_cause_by row_by s l k) e)

pub caps_alike : CapsAlike
caps_alike s l k h = (
  same_cause s l k h,
  λ e.
      let same = same_line s l h (no_cause s l k e).0.in_range in
      (ap (answer s) same, ap (move s) same),
)

-- what a step says of the capped form it says of the line
pub step_capped : (s : State) (l : ScriptLine) (k : ℕ) (r : Result Answer Cause) (cells : List Cell) (o : Option ScriptLine) → length s.registers ≤ 2 ^ 64 → o ≡ Some (capped l) → IsStepOfLine s o k r cells → IsStepOfLine s (Some l) k r cells
step_capped s l k (Ok a) cells o h is t =
    let u : IsStepOfLine s (Some (capped l)) k (Ok a) cells = subst (λ (p : Option ScriptLine). IsStepOfLine s p k (Ok a) cells) is t in
    let alike = caps_alike s l k h in
    let none = sym alike.0 ∙ u.0 in
    let same = alike.1 none in
    (none, u.1 ∙ same.0, u.2 ∙ ap (λ (x : State). x.registers) same.1)
step_capped s l k (Err c) cells o h is t =
    let u : IsStepOfLine s (Some (capped l)) k (Err c) cells = subst (λ (p : Option ScriptLine). IsStepOfLine s p k (Err c) cells) is t in
    (sym (caps_alike s l k h).0 ∙ u.0, u.1)
