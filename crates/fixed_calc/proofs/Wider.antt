-- A line on a wider word: no cause comes, and the answer stays, where its row is undefined or fits.
use Rattle.std.proofs.Common.{◌≡◌, ◌-◌, ◌≤◌, ℕ, ℤ, Bool, true, false, not, nat_le, ◌||◌, List, [], ◌∷◌, length, Option, Some, None, if◌then◌else◌, refl, sym, ap, ◌∙◌, arith}
use Rattle.std.specs.List.{list_any}
use Rattle.std.specs.Option.{option_map_or}
use Rattle.std.proofs.lemmas.Int.{ints}
use Rattle.std.proofs.Math.Pow.{pow_mono}
use Rattle.fixed_word.specs.Format.{InRange, IsWidth, fits}
use Rattle.fixed_text.specs.declared.names.WordName.{WordName}
use Rattle.fixed_script.specs.declared.names.Policy.{Policy}
use Rattle.fixed_script.specs.declared.names.Policy.TheVariants.{Checked, Saturating, Wrapping, Overflowing, Strict}
use Rattle.fixed_script.specs.declared.names.Op.{Op}
use Rattle.fixed_script.specs.declared.names.Op.TheVariants.{Sqrt}
use Rattle.fixed_machine.specs.declared.answer.Answer.{Answer}
use Rattle.fixed_machine.specs.declared.answer.Answer.TheVariants.{Absent, Bits, Flagged}
use Rattle.fixed_machine.specs.declared.cause.Cause.TheVariants.{Overflow}
use Rattle.fixed_script.specs.Text.{ScriptLine, SetTo, Apply}
use Rattle.fixed_script.specs.Offered.{is_offered}
use Rattle.fixed_machine.specs.Projection.{project}
use Rattle.fixed_machine.specs.Machine.{State, is_unoffered, is_out_of_range, is_mismatched, literals_of, registers_of, row_by, operand_values, row_cause, late_cause_by, cause, answer, move, stored, destination, answer_by}
use Rattle.fixed_text.specs.Words.{is_signed, width}
use Rattle.fixed_calc.specs.PolicyLaws.{WhereItFits}
use Rattle.fixed_machine.specs.Step.{state_in}
use Rattle.fixed_calc.specs.Widening.{IsWider, exceeds, row_fits}
use Rattle.fixed_machine.proofs.Fits.{in_range, fit_true, is_width}
use Rattle.fixed_calc.proofs.PolicyLaws.{where_it_fits}
use Rattle.fixed_machine.proofs.Causes.{PassesTests, after_tests, no_cause, either_false}
use Rattle.fixed_machine.specs.inside.Stepping.{is_value}

-- ---- numbers
wider_range : (s : Bool) (n m : ℕ) (x : ℤ) → n ≤ m → InRange s n x → InRange s m x
wider_range true n m x more r =
    let less : n - 1 ≤ m - 1 = omega arith in
    let powers = pow_mono less in
    let low = r.0 in
    let high = r.1 in
    (omega (arith, ints), omega (arith, ints))
wider_range false n m x more r =
    let powers = pow_mono more in
    let high = r.1 in
    (r.0, omega (arith, ints))

not_false : (b : Bool) → not b ≡ false → b ≡ true
not_false true e = refl
not_false false e = cc

not_true : (b : Bool) → not b ≡ true → b ≡ false
not_true true e = cc
not_true false e = refl

both_false : {a b : Bool} → a ≡ false → b ≡ false → (a || b) ≡ false
both_false p q = rw (p, q) refl

module _ (s : Bool) (n m : ℕ) (more : n ≤ m) where
  wider_fits : (x : ℤ) → fits s n x ≡ true → fits s m x ≡ true
  wider_fits x e = fit_true s m x (wider_range s n m x more (in_range s n x e))

  pub wider_row : (row : Option ℤ) → exceeds s n row ≡ false → exceeds s m row ≡ false
  wider_row None e = refl
  wider_row (Some x) e = ap not (wider_fits x (not_false (fits s n x) e))

  -- whichever policy answers a number that fits
  pub same_projection : (policy : Policy) (row : Option ℤ) → IsWidth n → IsWidth m → exceeds s n row ≡ false → project policy s m row ≡ project policy s n row
  same_projection Checked None a b e = refl
  same_projection Saturating None a b e = refl
  same_projection Wrapping None a b e = refl
  same_projection Overflowing None a b e = refl
  same_projection Strict None a b e = refl
  same_projection policy (Some x) a b e =
      let fit = not_false (fits s n x) e in
      by_policy policy (where_it_fits s n x a fit) (where_it_fits s m x b (wider_fits x fit))
    where
      by_policy : (policy : Policy) → WhereItFits s n x → WhereItFits s m x → project policy s m (Some x) ≡ project policy s n (Some x)
      by_policy Checked narrow wide = ap (λ row. option_map_or Bits row Absent) (wide.by_checked ∙ sym narrow.by_checked)
      by_policy Saturating narrow wide = ap (λ row. option_map_or Bits row Absent) (wide.by_saturating ∙ sym narrow.by_saturating)
      by_policy Wrapping narrow wide = ap (λ row. option_map_or Bits row Absent) (wide.by_wrapping ∙ sym narrow.by_wrapping)
      by_policy Overflowing narrow wide = ap (λ row. option_map_or (λ p. Flagged p.0 p.1) row Absent) (wide.by_overflowing ∙ sym narrow.by_overflowing)
      by_policy Strict narrow wide = refl

  pub same_row_cause : (policy : Policy) (row : Option ℤ) (op : Op) (k : ℕ) → exceeds s n row ≡ false → row_cause s m policy row op k ≡ row_cause s n policy row op k
  unfolding row_cause
  same_row_cause Checked None op k e = refl
  same_row_cause policy None Sqrt k e = refl
  same_row_cause policy None op k e = refl
  same_row_cause Strict (Some x) op k e =
      let fit = not_false (fits s n x) e in
      ap (λ (b : Bool). if b then None else Some (Overflow k)) (wider_fits x fit ∙ sym fit)
  same_row_cause policy (Some x) op k e = refl

-- ---- lines
-- the state with the wider word
abbrev pub widened : WordName → State → State
widened wide s = state_in wide s.registers

literals_fit : (s : Bool) (n m : ℕ) → n ≤ m → (ks : List ℤ) → list_any (λ k. not (fits s n k)) ks ≡ false → list_any (λ k. not (fits s m k)) ks ≡ false
literals_fit s n m more [] e = refl
literals_fit s n m more (k ∷ ks) e =
    let parts = either_false (not (fits s n k)) (list_any (λ j. not (fits s n j)) ks) e in
    both_false (ap not (wider_fits s n m more k (not_false (fits s n k) parts.0))) (literals_fit s n m more ks parts.1)

module _ (s : State) (wide : WordName) (wider : IsWider s.word wide) where
  more_or_equal : width s.word ≤ width wide
  more_or_equal = let more = wider.more_bits in omega arith

  same_offer : (line : ScriptLine) → is_unoffered wide line ≡ is_unoffered s.word line
  unfolding is_unoffered
  same_offer (SetTo dest k) = refl
  same_offer (Apply dest policy op xs how) = ap (λ (b : Bool). not (is_offered b policy op)) wider.same_sign

  still_in_range : (line : ScriptLine) → is_out_of_range s line ≡ false → is_out_of_range (widened wide s) line ≡ false
  unfolding is_out_of_range
  still_in_range line e =
      let parts = either_false (list_any (λ r. nat_le (length s.registers) r) (registers_of line)) (list_any (λ k. not (is_value s.word k)) (literals_of line)) e in
      both_false parts.0
      (ap (λ (b : Bool). list_any (λ k. not (fits b (width wide) k)) (literals_of line)) wider.same_sign ∙ literals_fit (is_signed s.word) (width s.word) (width wide) more_or_equal (literals_of line) parts.1)

  same_match : (line : ScriptLine) → is_mismatched (widened wide s) line ≡ is_mismatched s line
  unfolding is_mismatched
  same_match line = refl

  still_passes : (line : ScriptLine) → PassesTests s line → PassesTests (widened wide s) line
  still_passes line t = record {
    offered = same_offer line ∙ t.offered;
    in_range = still_in_range line t.in_range;
    one_fraction = same_match line ∙ t.one_fraction;
  }

  same_late_cause : (line : ScriptLine) (k : ℕ) → row_fits s line ≡ true → late_cause_by row_by (widened wide s) line k ≡ late_cause_by row_by s line k
  same_late_cause (SetTo dest x) k e = refl
  same_late_cause (Apply dest policy op xs how) k e =
      let row = row_by how op (operand_values s.registers xs) in
      ap (λ (b : Bool). row_cause b (width wide) policy row op k) wider.same_sign
      ∙ same_row_cause (is_signed s.word) (width s.word) (width wide) more_or_equal policy row op k (not_true (exceeds (is_signed s.word) (width s.word) row) e)

  pub still_no_cause : (line : ScriptLine) (k : ℕ) → row_fits s line ≡ true → cause s line k ≡ None → cause (widened wide s) line k ≡ None
  still_no_cause line k e none =
      let passes = no_cause s line k none in
      after_tests (widened wide s) line k (still_passes line passes.0) ∙ same_late_cause line k e ∙ passes.1

  pub same_answer : (line : ScriptLine) → row_fits s line ≡ true → answer (widened wide s) line ≡ answer s line
  unfolding answer_by
  same_answer (SetTo dest x) e = refl
  same_answer (Apply dest policy op xs how) e =
      let row = row_by how op (operand_values s.registers xs) in
      ap (λ (b : Bool). project policy b (width wide) row) wider.same_sign
      ∙ same_projection (is_signed s.word) (width s.word) (width wide) more_or_equal policy row (is_width s.word) (is_width wide) (not_true (exceeds (is_signed s.word) (width s.word) row) e)

  pub same_move : (line : ScriptLine) → row_fits s line ≡ true → move (widened wide s) line ≡ widened wide (move s line)
  same_move line e = ap (λ (a : Answer). state_in wide (stored s.registers (destination line) a)) (same_answer line e)
