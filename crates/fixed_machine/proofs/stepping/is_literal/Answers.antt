-- A magnitude up to the end of its sign is one of a value.
use Rattle.std.proofs.Common.{◌≡◌, ◌≤◌, ℕ, Bool, true, false, pos, neg_ℤ, refl, sym, ap, ◌∙◌, arith}
use Rattle.std.specs.Prelude.{nat_le, if◌then◌else◌}
use Rattle.std.proofs.lemmas.Int.{ints}
use Rattle.std.proofs.lemmas.Bool.Decides.{nat_tests}
use Rattle.fixed_word.specs.Format.{fits, InRange, lowest, highest, with_sign}
use Rattle.fixed_word.proofs.Sides.{lowest_sign, highest_sign}
use Rattle.fixed_text.specs.Words.{is_signed, width}
use Rattle.fixed_machine.proofs.Fits.{in_range, fit_true}
use Rattle.fixed_machine.proofs.stepping.is_literal.Goals as goal

within_ends : (s : Bool) (n : ℕ) (below : Bool) (m end : ℕ) → with_sign below end ≡ (if below then lowest s n else highest s n)
    → (m ≤ end → InRange s n (with_sign below m)) × (InRange s n (with_sign below m) → m ≤ end)
within_ends s n true m end is =
    let h = highest_sign s n in
    (λ small. (omega (arith, ints), omega (arith, ints)), λ inside. let low = inside.0 in omega (arith, ints))
within_ends s n false m end is =
    let l = lowest_sign s n in
    (λ small. (omega (arith, ints), omega (arith, ints)), λ inside. let high = inside.1 in omega (arith, ints))

value_test : (s : Bool) (n : ℕ) (below : Bool) (m end : ℕ) → with_sign below end ≡ (if below then lowest s n else highest s n) → nat_le m end ≡ fits s n (with_sign below m)
value_test s n below m end is = by_tests (nat_le m end) (fits s n (with_sign below m)) refl refl
  where
    by_tests : (a b : Bool) → nat_le m end ≡ a → fits s n (with_sign below m) ≡ b → nat_le m end ≡ fits s n (with_sign below m)
    by_tests true b e f = e ∙ sym (fit_true s n (with_sign below m) ((within_ends s n below m end is).0 (grind (arith, nat_tests))))
    by_tests false false e f = e ∙ sym f
    by_tests false true e f =
        let small = (within_ends s n below m end is).1 (in_range s n (with_sign below m) f) in
        absurd (grind (arith, nat_tests))

as_signed : (below : Bool) (m : ℕ) → with_sign below m ≡ (if below then neg_ℤ (pos m) else pos m)
as_signed true m = refl
as_signed false m = refl

pub returns : goal.returns
returns c =
    let word = c.args.word in
    let literal = c.args.literal in
    ap (nat_le literal.magnitude) c.from.ensures
    ∙ value_test (is_signed word) (width word) literal.below_zero literal.magnitude c.greatest_magnitude.result c.greatest_magnitude.ensures
    ∙ ap (fits (is_signed word) (width word)) (as_signed literal.below_zero literal.magnitude)
