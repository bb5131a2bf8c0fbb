-- A float held at the ends of a range, where it is finite.
use Rattle.std.specs.Prelude.{◌≡◌, ℕ, Bool, IsSome, refl}
use Rattle.std.proofs.lemmas.Bool.{false≢true}
use Rattle.std.specs.Float.{Float, nan, inf, fin}
use Rattle.fixed_word.specs.Policies.{saturating}
use Rattle.fixed_word.specs.declared.rounding.Rounding.{Rounding}
use Rattle.fixed_float.specs.Rows.{saturated_float, units_of_float}

pub saturated_is : (signed : Bool) (n : ℕ) (x : Float) (g : ℕ) (r : Rounding)
    → IsSome (units_of_float x g r) → saturated_float signed n x g r ≡ saturating signed n (units_of_float x g r)
saturated_is signed n nan g r h = absurd (false≢true h)
saturated_is signed n (inf s) g r h = absurd (false≢true h)
saturated_is signed n (fin s m e) g r h = refl
