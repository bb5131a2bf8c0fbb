-- The sine by quarters.
use Rattle.std.proofs.Common.{◌≡◌, ◌⊎◌, ◌+◌, ◌-◌, ◌*◌, ◌/◌, ◌%◌, ◌^◌, ◌≤◌, ℕ, ℤ, Bool, true, false, not, pos, neg_ℤ, suc, zero, inl, inr, refl, sym, ap, ◌∙◌, arith}
use Rattle.std.proofs.lemmas.Int.{ints}
use Rattle.fixed_word.specs.Format.{with_sign}
use Rattle.fixed_turns.specs.Series.{Fraction, cosine_series, sine_series}
use Rattle.fixed_turns.specs.Sines.{IsSineAt, IsSineBy, IsSumAt, pi, radians}
use Rattle.fixed_turns.specs.inside.Rests.{IsSineNear, IsUnder}
use Rattle.fixed_turns.proofs.Sums.{powers}

-- ---- signs
other_sign : (b : Bool) (m : ℕ) → neg_ℤ (with_sign (not b) m) ≡ with_sign b m
other_sign true m = refl
other_sign false zero = refl
other_sign false (suc m) = refl

twice_other : (b : Bool) (m : ℕ) → neg_ℤ (neg_ℤ (with_sign b m)) ≡ with_sign b m
twice_other b zero = omega (arith, ints)
twice_other b (suc m) = omega (arith, ints)

pub no_sign : (b : Bool) (m : ℕ) → m ≡ 0 → with_sign b m ≡ pos 0
no_sign true m e = ap (λ (n : ℕ). neg_ℤ (pos n)) e
no_sign false m e = ap pos e

sine_at : (k q f m : ℕ) (y : Fraction) (below b : Bool) → q ≤ 4 → q % 2 ≡ 0 → ((q / 2 ≡ 1 → ⊥) → b ≡ below) → (q / 2 ≡ 1 → b ≡ not below) → IsSumAt sine_series k y f 0 m → IsSineBy k q below y f (with_sign b m)
unfolding IsSineBy
sine_at k zero f m y below b few even same other h = (m, ap (λ (c : Bool). with_sign c m) (same (λ e. omega arith)), h)
sine_at k (suc zero) f m y below b few even same other h = absurd (omega arith)
sine_at k (suc (suc zero)) f m y below b few even same other h = (m, ap (λ (c : Bool). neg_ℤ (with_sign c m)) (other refl) ∙ other_sign below m, h)
sine_at k (suc (suc (suc zero))) f m y below b few even same other h = absurd (omega arith)
sine_at k (suc (suc (suc (suc zero)))) f m y below b few even same other h =
    (m, ap (λ (c : Bool). neg_ℤ (neg_ℤ (with_sign c m))) (same (λ e. omega arith)) ∙ twice_other below m, h)
sine_at k (suc (suc (suc (suc (suc q))))) f m y below b few even same other h = absurd (omega arith)

-- a sine of 0 has no sign
none_at : (k q f m : ℕ) (y : Fraction) (b : Bool) (r : ℤ) → q ≤ 4 → q % 2 ≡ 0 → m ≡ 0 → r ≡ pos 0 → IsSumAt sine_series k y f 0 m → IsSineBy k q b y f r
unfolding IsSineBy
none_at k zero f m y b r few even none e h = (m, e ∙ sym (no_sign b m none), h)
none_at k (suc zero) f m y b r few even none e h = absurd (omega arith)
none_at k (suc (suc zero)) f m y b r few even none e h = (m, ap neg_ℤ e ∙ sym (no_sign b m none), h)
none_at k (suc (suc (suc zero))) f m y b r few even none e h = absurd (omega arith)
none_at k (suc (suc (suc (suc zero)))) f m y b r few even none e h = (m, ap (λ (z : ℤ). neg_ℤ (neg_ℤ z)) e ∙ sym (no_sign b m none), h)
none_at k (suc (suc (suc (suc (suc q))))) f m y b r few even none e h = absurd (omega arith)

-- t is the sign of the sine, and b that of the angle, unless the sine is 0
pub sine_by_sign : (k q f m : ℕ) (y : Fraction) (below t b : Bool) → q ≤ 4 → q % 2 ≡ 0 → ((q / 2 ≡ 1 → ⊥) → t ≡ below) → (q / 2 ≡ 1 → t ≡ not below) → (b ≡ below) ⊎ (m ≡ 0) → IsSumAt sine_series k y f 0 m
    → IsSineBy k q b y f (with_sign t m)
sine_by_sign k q f m y below t b few even same other (inl e) sum = sine_at k q f m y b t few even (λ n. same n ∙ sym e) (λ o. other o ∙ ap not (sym e)) sum
sine_by_sign k q f m y below t b few even same other (inr z) sum = none_at k q f m y b (with_sign t m) few even z (no_sign t m z) sum

pub sine_near : (k q f m x : ℕ) (below t : Bool) → q ≤ 4 → q % 2 ≡ 0 → ((q / 2 ≡ 1 → ⊥) → t ≡ below) → (q / 2 ≡ 1 → t ≡ not below) → (x ≡ 0 → m ≡ 0) → ((y : Fraction) → IsUnder 2 x y → IsSumAt sine_series k y f 0 m)
    → IsSineNear k q below x f (with_sign t m)
sine_near k q f m x below t few even same other none sum b y u (inl e) = sine_by_sign k q f m y below t b few even same other (inl e) (sum y u)
sine_near k q f m x below t few even same other none sum b y u (inr z) = sine_by_sign k q f m y below t b few even same other (inr (none z)) (sum y u)

pub cosine_at : (k q f m : ℕ) (y : Fraction) (below b : Bool) → q ≤ 4 → (q % 2 ≡ 0 → ⊥) → ((q / 2 ≡ 1 → ⊥) → b ≡ false) → (q / 2 ≡ 1 → b ≡ not false) → IsSumAt cosine_series k y f (2 ^ f) m → IsSineBy k q below y f (with_sign b m)
unfolding IsSineBy
cosine_at k zero f m y below b few odd same other h = absurd (odd refl)
cosine_at k (suc zero) f m y below b few odd same other h = (m, ap (λ (c : Bool). with_sign c m) (same (λ e. omega arith)), h)
cosine_at k (suc (suc zero)) f m y below b few odd same other h = absurd (odd refl)
cosine_at k (suc (suc (suc zero))) f m y below b few odd same other h = (m, ap (λ (c : Bool). neg_ℤ (with_sign c m)) (other refl) ∙ other_sign false m, h)
cosine_at k (suc (suc (suc (suc zero)))) f m y below b few odd same other h = absurd (odd refl)
cosine_at k (suc (suc (suc (suc (suc q))))) f m y below b few odd same other h = absurd (omega arith)

pub cosine_near : (k q f m x : ℕ) (below t : Bool) → q ≤ 4 → (q % 2 ≡ 0 → ⊥) → ((q / 2 ≡ 1 → ⊥) → t ≡ false) → (q / 2 ≡ 1 → t ≡ not false) → ((y : Fraction) → IsUnder 2 x y → IsSumAt cosine_series k y f (2 ^ f) m)
    → IsSineNear k q below x f (with_sign t m)
cosine_near k q f m x below t few odd same other sum b y u sure = cosine_at k q f m y b t few odd same other (sum y u)

-- ---- of turns: with both numbers beside pi
pub both_near : (k q f rest x v : ℕ) (below : Bool) (r : ℤ) → f ≤ 64 → rest ≡ x * 2 ^ (64 - f)
    → ((f p k : ℕ) → k * 2 ^ f ≡ 2 ^ 64 → 0xc90fdaa22168c234 * 10 ^ 39 ≤ p * 2 ^ 62 → p * 2 ^ 62 ≤ 0xc90fdaa22168c235 * 10 ^ 39 → (x : ℕ) → rest ≡ x * k → IsUnder 2 v (radians p x f))
    → IsSineNear k q below v f r → IsSineAt k q below x f r
both_near k q f rest x v below r l is under near = record {
  low = near below (radians pi x f) (under f pi (2 ^ (64 - f)) (powers f l) (omega arith) (omega arith) x is) (inl refl);
  high = near below (radians (pi + 1) x f) (under f (pi + 1) (2 ^ (64 - f)) (powers f l) (omega arith) (omega arith) x is) (inl refl);
}
