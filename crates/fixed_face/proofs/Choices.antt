-- A choice by a test that is known.
use Rattle.std.proofs.Common.{◌≡◌, ◌≤◌, ◌<◌, ℕ, Bool, true, false, Result, Err, refl, nat_le, arith}
use Rattle.std.specs.Prelude.{◌==◌, if◌then◌else◌}
use Rattle.std.proofs.lemmas.Bool.Decides.{nat_tests}
use Rattle.fixed_face.specs.declared.answer.Code.{Code}
use Rattle.fixed_face.specs.declared.answer.Code.TheVariants.{FractionPastWidth}
use Rattle.fixed_face.specs.Answers.{at_fraction}

pub first : {A : Type 0} (t : Bool) (x y : A) → t ≡ true → (if t then x else y) ≡ x
first true x y h = refl
first false x y h = absurd (cc)

pub second : {A : Type 0} (t : Bool) (x y : A) → t ≡ false → (if t then x else y) ≡ y
second false x y h = refl
second true x y h = absurd (cc)

le_true : (a b : ℕ) → a ≤ b → nat_le a b ≡ true
le_true a b l = grind (arith, nat_tests)

le_false : (a b : ℕ) → b < a → nat_le a b ≡ false
le_false a b l = grind (arith, nat_tests)

pub eq_true : (a b : ℕ) → a ≡ b → (a == b) ≡ true
eq_true a b e = grind (arith, nat_tests)

pub eq_false : (a b : ℕ) → (a ≡ b → ⊥) → (a == b) ≡ false
eq_false a b e = grind (arith, nat_tests)

pub fraction_is : {X : Type 0} (n f : ℕ) (answer : Result X Code) → f ≤ n → at_fraction n f answer ≡ answer
unfolding at_fraction
fraction_is n f answer l = first (nat_le f n) answer _ (le_true f n l)

pub fraction_past : {X : Type 0} (n f : ℕ) (answer : Result X Code) → n < f → at_fraction n f answer ≡ Err FractionPastWidth
unfolding at_fraction
fraction_past n f answer l = second (nat_le f n) answer _ (le_false f n l)
