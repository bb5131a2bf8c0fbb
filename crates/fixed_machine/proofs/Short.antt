-- An answer is at most twice as long as its line, and a header has a space for each register.
use Rattle.std.specs.Option.{option_and_then, option_map_or}
use Rattle.std.proofs.Common.{◌≡◌, ◌≤◌, ◌+◌, ◌*◌, ◌-◌, ◌==◌, if◌then◌else◌, cond, ℕ, ℤ, Bool, true, false, not, List, [], ◌∷◌, length, take, Option, Some, None, refl, ap, arith, length-append}
use Rattle.std.specs.Prelude.{slice_index}
use Rattle.std.proofs.lemmas.List.{length-take, length-map}
use Rattle.std.proofs.lemmas.List.Splits.{length-slice_split}
use Rattle.fixed_text.specs.declared.names.WordName.{WordName}
use Rattle.fixed_word.specs.declared.rounding.Rounding.{Rounding}
use Rattle.fixed_script.specs.declared.names.Policy.{Policy}
use Rattle.fixed_script.specs.declared.names.Policy.TheVariants.{Checked, Saturating, Wrapping, Overflowing, Strict}
use Rattle.fixed_script.specs.declared.names.Op.{Op}
use Rattle.fixed_machine.specs.declared.answer.Answer.TheVariants.{Absent, Bits, Flagged}
use Rattle.fixed_word.specs.Decimal.{natural_text}
use Rattle.fixed_machine.specs.Answers.{answer_text}
use Rattle.fixed_script.specs.Names.{policy_name}
use Rattle.fixed_word.specs.Pieces.{body}
use Rattle.fixed_script.specs.Text.{ScriptHeader, header_text, ScriptLine, SetTo, Apply, Operands, OneRegister, TwoRegisters, RegisterAndInt, ThreeRegisters, line_text}
use Rattle.fixed_digits.proofs.Lengths.{length_natural_some, length_whole}
use Rattle.fixed_script.proofs.HeaderLaws.{tokens_of_header}
use Rattle.std.proofs.lemmas.List.Sums.{sum_by-take-le}
use Rattle.fixed_word.specs.Format.{wrap, clamp}
use Rattle.fixed_machine.specs.Projection.{project}
use Rattle.fixed_machine.specs.Machine.{State, cause, answer, row_by, operand_values, answer_by}
use Rattle.fixed_text.specs.Words.{is_signed, width}
use Rattle.fixed_script.specs.Lines.{line_of, header_of, line_of_piece, header_of_piece}
use Rattle.fixed_machine.specs.Meaning.{fractions_of}
use Rattle.fixed_machine.specs.Rooms.{spaces_in}
use Rattle.fixed_machine.proofs.Fits.{value_small}
use Rattle.fixed_machine.proofs.Causes.{IsValued, answer_valued}
use Rattle.fixed_script.proofs.TextsRead.{reads_lines, reads_headers}
use Rattle.fixed_machine.specs.inside.Stepping.{is_value}

line_length : (dest : ℕ) (policy : Policy) (op : Op) (xs : Operands) (how : Option Rounding) → 6 + length (policy_name policy) ≤ length (line_text (Apply dest policy op xs how))
line_length dest policy op (OneRegister a) None = simp length-append (omega (arith, length_natural_some dest, length_natural_some a))
line_length dest policy op (OneRegister a) (Some r) = simp length-append (omega (arith, length_natural_some dest, length_natural_some a))
line_length dest policy op (TwoRegisters a b) None = simp length-append (omega (arith, length_natural_some dest, length_natural_some a))
line_length dest policy op (TwoRegisters a b) (Some r) = simp length-append (omega (arith, length_natural_some dest, length_natural_some a))
line_length dest policy op (RegisterAndInt a k) None = simp length-append (omega (arith, length_natural_some dest, length_natural_some a))
line_length dest policy op (RegisterAndInt a k) (Some r) = simp length-append (omega (arith, length_natural_some dest, length_natural_some a))
line_length dest policy op (ThreeRegisters a b c) None = simp length-append (omega (arith, length_natural_some dest, length_natural_some a))
line_length dest policy op (ThreeRegisters a b c) (Some r) = simp length-append (omega (arith, length_natural_some dest, length_natural_some a))

bits_short : (w : WordName) (x : ℤ) → is_value w x ≡ true → length (answer_text (Bits x)) ≤ 22
bits_short w x h = simp length-append (omega (arith, length_whole x (value_small w x h)))

flag_short : (w : WordName) (x : ℤ) (b : Bool) → is_value w x ≡ true → length (answer_text (Flagged x b)) ≤ 28
flag_short w x true h = simp length-append (omega (arith, length_whole x (value_small w x h)))
flag_short w x false h = simp length-append (omega (arith, length_whole x (value_small w x h)))

project_short : (w : WordName) (policy : Policy) (row : Option ℤ) → IsValued w (project policy (is_signed w) (width w) row) → length (answer_text (project policy (is_signed w) (width w) row)) ≤ 2 * length (policy_name policy) + 14
project_short w Checked None h = omega arith
project_short w Saturating None h = omega arith
project_short w Wrapping None h = omega arith
project_short w Overflowing None h = omega arith
project_short w Strict None h = omega arith
project_short w Checked (Some x) h = by_fit (is_value w x) h
  where
    by_fit : (b : Bool) → IsValued w (option_map_or Bits (if b then Some x else None) Absent) → length (answer_text (option_map_or Bits (if b then Some x else None) Absent)) ≤ 2 * length (policy_name Checked) + 14
    by_fit true h = omega (arith, bits_short w x h)
    by_fit false h = omega arith
project_short w Saturating (Some x) h = omega (arith, bits_short w (clamp (is_signed w) (width w) x) h)
project_short w Wrapping (Some x) h = omega (arith, bits_short w (wrap (is_signed w) (width w) x) h)
project_short w Overflowing (Some x) h = omega (arith, flag_short w (wrap (is_signed w) (width w) x) (not (is_value w x)) h)
project_short w Strict (Some x) h = omega (arith, bits_short w x h)

pub answer_short : (s : State) (l : ScriptLine) (k : ℕ) → cause s l k ≡ None → length (answer_text (answer s l)) ≤ 2 * length (line_text l) + 2
unfolding answer_by
answer_short s (SetTo dest x) k h = simp length-append (omega arith)
answer_short s (Apply dest policy op xs how) k h =
    let short = project_short s.word policy (row_by how op (operand_values s.registers xs)) (answer_valued s (Apply dest policy op xs how) k h) in
    omega (arith, short, line_length dest policy op xs how)

pub body_length : (p q : List ℕ) → body p ≡ Some q → length q + 1 ≤ length p
body_length [] q e = cc
body_length (x ∷ xs) q e = by_test (slice_index (x ∷ xs) (length (x ∷ xs) - 1) == 10) e
  where
    by_test : (test : Bool) → (if test then Some (take (length (x ∷ xs) - 1) (x ∷ xs)) else None) ≡ Some q → length q + 1 ≤ length (x ∷ xs)
    by_test true e = let same : take (length (x ∷ xs) - 1) (x ∷ xs) ≡ q = cc in omega (arith, ap length same, length-take (length (x ∷ xs) - 1) (x ∷ xs))
    by_test false e = cc

line_front : (p : List ℕ) (o : Option (List ℕ)) (l : ScriptLine) → body p ≡ o → option_and_then line_of o ≡ Some l → length (line_text l) + 1 ≤ length p
line_front p None l is e = cc
line_front p (Some q) l is e = omega (arith, body_length p q is, ap length ((reads_lines q l).0 e).1)

pub answer_fits : (s : State) (p : List ℕ) (l : ScriptLine) (k : ℕ) → line_of_piece p ≡ Some l → cause s l k ≡ None → length (answer_text (answer s l)) ≤ 2 * length p
unfolding line_of_piece
answer_fits s p l k is none = omega (arith, answer_short s l k none, line_front p (body p) l refl is)

-- ---- the header
count_take : (n : ℕ) (xs : List ℕ) → spaces_in (take n xs) ≤ spaces_in xs
count_take n xs = sum_by-take-le (λ x. cond (x == 32) 1 0) xs n

header_spaces : (h : ScriptHeader) → spaces_in (header_text h) ≡ length (fractions_of h)
header_spaces h =
    let parts = length-slice_split (λ b. b == 32) (header_text h) in
    let tokens = ap length (tokens_of_header h) in
    omega (arith, parts, tokens, length-map h.others natural_text)

body_spaces : (p q : List ℕ) → body p ≡ Some q → spaces_in q ≤ spaces_in p
body_spaces p q e = by_test (slice_index p (length p - 1) == 10) e
  where
    by_test : (test : Bool) → (if test then Some (take (length p - 1) p) else None) ≡ Some q → spaces_in q ≤ spaces_in p
    by_test true e = let same : take (length p - 1) p ≡ q = cc in omega (arith, ap spaces_in same, count_take (length p - 1) p)
    by_test false e = cc

header_front : (p : List ℕ) (o : Option (List ℕ)) (h : ScriptHeader) → body p ≡ o → option_and_then header_of o ≡ Some h → length (fractions_of h) ≤ spaces_in p
header_front p None h is e = cc
header_front p (Some q) h is e = omega (arith, body_spaces p q is, header_spaces h, ap spaces_in ((reads_headers q h).0 e))

pub header_room : (p : List ℕ) (h : ScriptHeader) → header_of_piece p ≡ Some h → length (fractions_of h) ≤ spaces_in p
unfolding header_of_piece
header_room p h is = header_front p (body p) h refl is
