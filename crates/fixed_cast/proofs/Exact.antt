-- Numbers that fit, and floats that are no NaN.
use Rattle.std.proofs.Common.{◌≡◌, ℕ, ℤ, Bool, true, false, refl, ◌∙◌}
use Rattle.std.specs.Prelude.{Some, None, IsSome, if◌then◌else◌}
use Rattle.std.specs.Float.{Float, NotNan, nan, inf, fin}
use lib.Ieee.{is_nan}
use Rattle.std.proofs.lemmas.Bool.{false≢true}
use Rattle.fixed_word.specs.declared.outcome.Outcome.{Outcome}
use Rattle.fixed_word.specs.declared.outcome.Side.TheVariants.{Fits}
use Rattle.fixed_word.specs.declared.rounding.Rounding.{Rounding}
use Rattle.fixed_word.specs.Format.{InRange, fits}
use Rattle.fixed_word.specs.Policies.{checked}
use Rattle.fixed_word.specs.Standing.{StandsFor}
use Rattle.fixed_word.proofs.Sides.{side_fits}
use Rattle.fixed_word.proofs.Nearest.{fits_is}
use Rattle.fixed_word.proofs.Standings.{checked_same}
use Rattle.fixed_float.specs.Rows.{saturated_float}

is_some_if : (b : Bool) (x : ℤ) → IsSome (if b then Some x else None) → b ≡ true
is_some_if true x h = refl
is_some_if false x h = absurd (false≢true h)

-- a number that the checked policy keeps is in range
pub in_range : (s : Bool) (n : ℕ) (x : ℤ) → IsSome (checked s n (Some x)) → InRange s n x
in_range s n x f = (fits_is s n x).0 (is_some_if (fits s n x) x f)

-- and the other way
pub kept : (s : Bool) (n : ℕ) (x : ℤ) → InRange s n x → IsSome (checked s n (Some x))
kept s n x r = rw (checked_same s n x r) refl

-- numbers are equal where rows of them are
pub same_number : (x y : ℤ) → Some x ≡ Some y → x ≡ y
same_number x y e = cc

-- an outcome of a number that the checked policy keeps fits
pub kept_side : {T : Type 0} (value : T → ℤ) (s : Bool) (n : ℕ) (o : Outcome T) → (x : ℤ) × (StandsFor value s n x o × IsSome (checked s n (Some x))) → o.side ≡ Fits
kept_side value s n o kept =
    let i = in_range s n kept.0 kept.1.1 in
    kept.1.0.side ∙ side_fits s n kept.0 i.0 i.1

-- a float that is held at the ends of a range is no NaN
pub no_nan : (s : Bool) (n : ℕ) (x : Float) (g : ℕ) (r : Rounding) → IsSome (saturated_float s n x g r) → NotNan x
unfolding is_nan
no_nan s n nan g r h = absurd (false≢true h)
no_nan s n (inf t) g r h = tt
no_nan s n (fin t m e) g r h = tt
