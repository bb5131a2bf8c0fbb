-- What an outcome says of the number that it stands for.
use Rattle.std.proofs.Common.{◌≡◌, ℕ, ℤ, Bool, Some, ap, sym, ◌∙◌, arith}
use Rattle.std.proofs.lemmas.Int.{ints}
use Rattle.fixed_word.specs.declared.outcome.Side.TheVariants.{Fits}
use Rattle.fixed_word.specs.declared.outcome.Outcome.{Outcome}
use Rattle.fixed_word.specs.Format.{IsWidth, InRange, clamp}
use Rattle.fixed_word.specs.Standing.{StandsFor, side_of}
use Rattle.fixed_word.specs.Policies.{checked}
use Rattle.fixed_word.proofs.Wraps.{wrap_same, width_pos}

pub range_from_side : (s : Bool) (n : ℕ) (x : ℤ) → side_of s n x ≡ Fits → InRange s n x
range_from_side s n x e = grind (arith, ints)

-- the word of an outcome that fits has the number itself
pub value_where_fits : {T : Type 0} (value : T → ℤ) (s : Bool) (n : ℕ) (x : ℤ) (o : Outcome T) → IsWidth n → StandsFor value s n x o → o.side ≡ Fits → value o.wrapped ≡ x
value_where_fits value s n x o w h e = h.wrapped ∙ wrap_same s n x (width_pos n w) (range_from_side s n x (sym h.side ∙ e))

-- what the policies make of a number that fits
pub checked_same : (s : Bool) (n : ℕ) (x : ℤ) → InRange s n x → checked s n (Some x) ≡ Some x
checked_same s n x r =
    let l = r.0 in
    let h = r.1 in
    grind (arith, ints)

pub clamp_same : (s : Bool) (n : ℕ) (x : ℤ) → InRange s n x → clamp s n x ≡ x
clamp_same s n x r =
    let l = r.0 in
    let h = r.1 in
    grind (arith, ints)

-- the same, from an outcome
pub checked_where_fits : {T : Type 0} (value : T → ℤ) (s : Bool) (n : ℕ) (x : ℤ) (o : Outcome T) → IsWidth n → StandsFor value s n x o → o.side ≡ Fits → checked s n (Some x) ≡ Some (value o.wrapped)
checked_where_fits value s n x o w h e = checked_same s n x (range_from_side s n x (sym h.side ∙ e)) ∙ ap (λ (z : ℤ). Some z) (sym (value_where_fits value s n x o w h e))

pub clamp_where_fits : {T : Type 0} (value : T → ℤ) (s : Bool) (n : ℕ) (x : ℤ) (o : Outcome T) → IsWidth n → StandsFor value s n x o → o.side ≡ Fits → clamp s n x ≡ value o.wrapped
clamp_where_fits value s n x o w h e = clamp_same s n x (range_from_side s n x (sym h.side ∙ e)) ∙ sym (value_where_fits value s n x o w h e)
