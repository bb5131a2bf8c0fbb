-- The rows of operations that have a divisor.
use Rattle.std.proofs.Common.{◌≡◌, ◌≢◌, ℕ, ℤ, pos, negsuc, zero, suc, Bool, true, false, Some, None, ◌↔◌, ◌∙◌, refl, sym}
use Rattle.std.proofs.lemmas.Bool.{false≢true}
use Rattle.fixed_word.specs.declared.rounding.Rounding.{Rounding}
use Rattle.fixed_script.specs.declared.names.Op.{Op}
use Rattle.fixed_script.specs.declared.names.Op.TheVariants.{Neg, Add, Sub, Mul, Div, Recip, MulAdd, AddProd, MulInt, DivInt, DivEuclid, DivEuclidInt, RemEuclidInt, NextMultipleOf, Dist, Sqrt, Abs, Signum, Rem, RemInt, RemEuclid, NextPowerOfTwo}
use Rattle.fixed_word.specs.Standing.{IsOutcomeOfRow, StandsFor}
use Rattle.fixed_word.specs.declared.outcome.Outcome.{Outcome}
use Rattle.fixed_kernel.specs.Rows.{by_divisor}
use Rattle.fixed_script.specs.Text.{takes_rounding}
use Rattle.fixed_machine.specs.Rows.{exact}
use Rattle.fixed_machine.specs.inside.Groups.{group, ByDivisor}

-- where the divisor is not 0, the row is its number
pub divided : {T : Type 0} (value : T → ℤ) (signed : Bool) (n : ℕ) (d x : ℤ) (outcome : Outcome T) → d ≢ pos 0 → StandsFor value signed n x outcome → IsOutcomeOfRow value signed n (by_divisor d x) (Some outcome)
divided value signed n (pos zero) x outcome some stands = absurd (some refl)
divided value signed n (pos (suc d)) x outcome some stands = (x, refl, stands)
divided value signed n (negsuc d) x outcome some stands = (x, refl, stands)

-- a word that is not the word 0 holds no 0
pub not_zero : (same : Bool) (x zero_word : ℤ) → ((same ≡ true) ↔ (x ≡ zero_word)) → zero_word ≡ pos 0 → same ≡ false → x ≢ pos 0
not_zero same x zero_word law is other none = false≢true (sym other ∙ law.1 (none ∙ sym is))

-- where it is 0, there is none
pub no_row : (d x : ℤ) → d ≡ pos 0 → by_divisor d x ≡ None
no_row d x is = rw is refl

-- of an operation with a divisor there is none where that is 0
pub undivided : (op : Op) (r : Rounding) (a c : ℤ) (f g h : ℕ) → group op ≡ ByDivisor → exact op r a (pos 0) c f g h ≡ None
unfolding exact
undivided Neg r a c f g h e = cc
undivided Add r a c f g h e = cc
undivided Sub r a c f g h e = cc
undivided Mul r a c f g h e = cc
undivided Div r a c f g h e = refl
undivided Recip r a c f g h e = cc
undivided MulAdd r a c f g h e = cc
undivided AddProd r a c f g h e = cc
undivided MulInt r a c f g h e = cc
undivided DivInt r a c f g h e = refl
undivided DivEuclid r a c f g h e = refl
undivided DivEuclidInt r a c f g h e = refl
undivided RemEuclidInt r a c f g h e = refl
undivided NextMultipleOf r a c f g h e = refl
undivided Dist r a c f g h e = cc
undivided Sqrt r a c f g h e = cc
undivided Abs r a c f g h e = cc
undivided Signum r a c f g h e = cc
undivided Rem r a c f g h e = refl
undivided RemInt r a c f g h e = refl
undivided RemEuclid r a c f g h e = refl
undivided NextPowerOfTwo r a c f g h e = cc

-- an operation that takes no rounding has one row
pub unrounded : (op : Op) (r q : Rounding) (a b c : ℤ) (f g h : ℕ) → takes_rounding op ≡ false → exact op r a b c f g h ≡ exact op q a b c f g h
unfolding exact
unrounded Mul r q a b c f g h e = cc
unrounded Div r q a b c f g h e = cc
unrounded Recip r q a b c f g h e = cc
unrounded MulAdd r q a b c f g h e = cc
unrounded AddProd r q a b c f g h e = cc
unrounded DivInt r q a b c f g h e = cc
unrounded Neg r q a b c f g h e = refl
unrounded Add r q a b c f g h e = refl
unrounded Sub r q a b c f g h e = refl
unrounded MulInt r q a b c f g h e = refl
unrounded DivEuclid r q a b c f g h e = refl
unrounded DivEuclidInt r q a b c f g h e = refl
unrounded RemEuclidInt r q a b c f g h e = refl
unrounded NextMultipleOf r q a b c f g h e = refl
unrounded Dist r q a b c f g h e = refl
unrounded Sqrt r q a b c f g h e = refl
unrounded Abs r q a b c f g h e = refl
unrounded Signum r q a b c f g h e = refl
unrounded Rem r q a b c f g h e = refl
unrounded RemInt r q a b c f g h e = refl
unrounded RemEuclid r q a b c f g h e = refl
unrounded NextPowerOfTwo r q a b c f g h e = refl
