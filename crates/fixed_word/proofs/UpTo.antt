-- What the policies make of two numbers that are equal or lie above the range.
use Rattle.std.proofs.Common.{◌≡◌, ◌⊎◌, ◌<ℤ◌, ℕ, ℤ, Bool, Some, None, ap, sym, ◌∙◌, inl, inr, arith}
use Rattle.std.proofs.lemmas.Int.{ints}
use Rattle.fixed_word.specs.Format.{InRange, highest}
use Rattle.fixed_word.specs.Policies.{checked, saturating}
use Rattle.fixed_word.proofs.Nearest.{clamp_above}

checked_above : (s : Bool) (n : ℕ) (x : ℤ) → highest s n <ℤ x → checked s n (Some x) ≡ None
checked_above s n x h = grind (arith, ints)

pub checked_alike : (s : Bool) (n : ℕ) (x y : ℤ) → (y ≡ x) ⊎ ((highest s n <ℤ y) × (highest s n <ℤ x)) → checked s n (Some y) ≡ checked s n (Some x)
checked_alike s n x y (inl e) = ap (λ (z : ℤ). checked s n (Some z)) e
checked_alike s n x y (inr h) = checked_above s n y h.0 ∙ sym (checked_above s n x h.1)

pub saturating_alike : (s : Bool) (n : ℕ) (x y : ℤ) → (y ≡ x) ⊎ ((highest s n <ℤ y) × (highest s n <ℤ x)) → saturating s n (Some y) ≡ saturating s n (Some x)
saturating_alike s n x y (inl e) = ap (λ (z : ℤ). saturating s n (Some z)) e
saturating_alike s n x y (inr h) = ap (λ (z : ℤ). Some z) (clamp_above s n y h.0 ∙ sym (clamp_above s n x h.1))

pub same_where_fits : (s : Bool) (n : ℕ) (x y : ℤ) → InRange s n x → (y ≡ x) ⊎ ((highest s n <ℤ y) × (highest s n <ℤ x)) → y ≡ x
same_where_fits s n x y r (inl e) = e
same_where_fits s n x y r (inr h) =
    let top = r.1 in
    let above = h.1 in
    absurd (omega (arith, ints))
