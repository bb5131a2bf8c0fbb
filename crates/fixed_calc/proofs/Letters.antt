-- The letters of answers: `none` alone has an `o`, and a verdict that is true alone a `t`.
use Rattle.std.proofs.Common.{◌≡◌, ◌+◌, ℕ, ℤ, Bool, true, false, eqb, cond, if◌then◌else◌, List, [], ◌∷◌, ◌++◌, append_assoc, zero-add, refl, sym, ap, ◌∙◌, codes}
use Rattle.std.specs.Char.{is_ascii_digit}
use Rattle.std.specs.List.{count_by, flat_map}
use Rattle.std.proofs.lemmas.List.Sums.{sum_by-append, sum_by-cons}
use Rattle.fixed_word.specs.Decimal.{whole_text}
use Rattle.fixed_machine.specs.declared.answer.Answer.{Answer}
use Rattle.fixed_machine.specs.declared.answer.Answer.TheVariants.{Absent, Bits, Flagged}
use Rattle.fixed_machine.specs.Answers.{answer_text}
use Rattle.fixed_calc.specs.Demo.{is_absent, has_true_verdict}
use Rattle.fixed_digits.proofs.Lacking.{whole_lacks, count_lacks}

abbrev letter : ℕ → ℕ → ℕ
letter c b = cond (eqb b c) 1 0

-- a decimal has no letters
after_whole : (c : ℕ) (x : ℤ) (t : List ℕ) → is_ascii_digit c ≡ false → eqb 45 c ≡ false → count_by (λ b. eqb b c) (whole_text x ++ t) ≡ count_by (λ b. eqb b c) t
after_whole c x t other minus =
    sum_by-append (letter c) (whole_text x) t ∙ ap (λ n. n + count_by (λ b. eqb b c) t) (count_lacks c (whole_text x) (whole_lacks c x other minus)) ∙ zero-add _

abbrev verdict_text : Bool → List ℕ
verdict_text verdict = if verdict then codes " true" else codes " false"

after_verdict : (c : ℕ) (x : ℤ) (verdict : Bool) → is_ascii_digit c ≡ false → eqb 45 c ≡ false → count_by (λ b. eqb b c) (answer_text (Flagged x verdict)) ≡ count_by (λ b. eqb b c) (verdict_text verdict ++ (10 ∷ []))
after_verdict c x verdict other minus =
    ap (count_by (λ b. eqb b c)) (append_assoc (whole_text x) (verdict_text verdict) (10 ∷ [])) ∙ after_whole c x (verdict_text verdict ++ (10 ∷ [])) other minus

absent_letters : (a : Answer) → count_by (λ b. eqb b 111) (answer_text a) ≡ cond (is_absent a) 1 0
absent_letters Absent = refl
absent_letters (Bits x) = after_whole 111 x (10 ∷ []) refl refl
absent_letters (Flagged x true) = after_verdict 111 x true refl refl
absent_letters (Flagged x false) = after_verdict 111 x false refl refl

verdict_letters : (a : Answer) → count_by (λ b. eqb b 116) (answer_text a) ≡ cond (has_true_verdict a) 1 0
verdict_letters Absent = refl
verdict_letters (Bits x) = after_whole 116 x (10 ∷ []) refl refl
verdict_letters (Flagged x true) = after_verdict 116 x true refl refl
verdict_letters (Flagged x false) = after_verdict 116 x false refl refl

-- a letter that stands once in the texts that pass a test, and in no others
counted : (c : ℕ) (test : Answer → Bool) (given : List Answer) → ((a : Answer) → count_by (λ b. eqb b c) (answer_text a) ≡ cond (test a) 1 0) → count_by (λ b. eqb b c) (flat_map answer_text given) ≡ count_by test given
counted c test [] each = refl
counted c test (a ∷ given) each =
    sum_by-append (letter c) (answer_text a) (flat_map answer_text given)
    ∙ ap (λ n. n + count_by (λ b. eqb b c) (flat_map answer_text given)) (each a)
    ∙ ap (λ n. cond (test a) 1 0 + n) (counted c test given each)
    ∙ sym (sum_by-cons (λ a. cond (test a) 1 0) a given)

pub absent_count : (given : List Answer) → count_by (λ b. eqb b 111) (flat_map answer_text given) ≡ count_by is_absent given
absent_count given = counted 111 is_absent given absent_letters

pub verdict_count : (given : List Answer) → count_by (λ b. eqb b 116) (flat_map answer_text given) ≡ count_by has_true_verdict given
verdict_count given = counted 116 has_true_verdict given verdict_letters
