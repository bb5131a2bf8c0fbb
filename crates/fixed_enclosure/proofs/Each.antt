-- What the ends say of each two numbers, and of some.
use Rattle.std.proofs.Common.{◌≡◌, ◌≤ℤ◌, ◌<ℤ◌, ◌-ℤ◌, ℤ, pos, refl, arith}
use Rattle.std.specs.Prelude.{◌↔◌, ◌&&◌, Bool, true, false, IsTrue, unsigned_abs}
use Rattle.std.specs.Int.{int_max}
use Rattle.std.proofs.lemmas.Bool.{false≢true}
use Rattle.std.proofs.lemmas.Int.{clamps, ints}
use Rattle.fixed_interval.specs.Ends.{Ends}
use Rattle.fixed_enclosure.specs.Sets.{Contains, ForAll, ForSome}

low_in : (e : Ends) → e.low ≤ℤ e.high → Contains e e.low
low_in e o = record { from_low = omega (arith, ints); to_high = o }

high_in : (e : Ends) → e.low ≤ℤ e.high → Contains e e.high
high_in e o = record { from_low = o; to_high = omega (arith, ints) }

module _ (a b : Ends) (p : a.low ≤ℤ a.high) (q : b.low ≤ℤ b.high) where
  pub all_less : (a.high <ℤ b.low) ↔ ForAll (λ x y. x <ℤ y) a b
  all_less = (
    (λ h x y i j. let u = i.to_high in let l = j.from_low in omega (arith, ints)),
    (λ h. h a.high b.low (high_in a p) (low_in b q)),
  )

  pub all_at_most : (a.high ≤ℤ b.low) ↔ ForAll (λ x y. x ≤ℤ y) a b
  all_at_most = (
    (λ h x y i j. let u = i.to_high in let l = j.from_low in omega (arith, ints)),
    (λ h. h a.high b.low (high_in a p) (low_in b q)),
  )

  pub all_equal : ((a.high ≤ℤ b.low) × (b.high ≤ℤ a.low)) ↔ ForAll (λ x y. x ≡ y) a b
  all_equal = (
    (λ h x y i j. let u = i.to_high in let l = j.from_low in let v = j.to_high in let m = i.from_low in let s = h.0 in let t = h.1 in omega (arith, ints)),
    (λ h. let s = h a.high b.low (high_in a p) (low_in b q) in let t = h a.low b.high (low_in a p) (high_in b q) in (omega (arith, ints), omega (arith, ints))),
  )

  pub some_less : (a.low <ℤ b.high) ↔ ForSome (λ x y. x <ℤ y) a b
  some_less = (
    (λ h. (a.low, b.high, low_in a p, high_in b q, h)),
    (λ h. let i = h.2 in let j = h.3 in let r = h.4 in let l = i.from_low in let u = j.to_high in omega (arith, ints)),
  )

  pub some_at_most : (a.low ≤ℤ b.high) ↔ ForSome (λ x y. x ≤ℤ y) a b
  some_at_most = (
    (λ h. (a.low, b.high, low_in a p, high_in b q, h)),
    (λ h. let i = h.2 in let j = h.3 in let r = h.4 in let l = i.from_low in let u = j.to_high in omega (arith, ints)),
  )

  pub some_equal : ((a.low ≤ℤ b.high) × (b.low ≤ℤ a.high)) ↔ ForSome (λ x y. x ≡ y) a b
  some_equal = (
    (λ h. let s = h.0 in let t = h.1 in let m = int_max a.low b.low in
        (m, m, record { from_low = omega (arith, ints, clamps); to_high = omega (arith, ints, clamps) }, record { from_low = omega (arith, ints, clamps); to_high = omega (arith, ints, clamps) }, refl)),
    (λ h. let i = h.2 in let j = h.3 in let r = h.4 in let l = i.from_low in let u = i.to_high in let m = j.from_low in let v = j.to_high in (omega (arith, ints), omega (arith, ints))),
  )

-- a test of a fact, and what the fact is
pub through : {t : Bool} {P Q : Type 0} → (IsTrue t ↔ P) → (P ↔ Q) → IsTrue t ↔ Q
through f g = ((λ h. g.0 (f.0 h)), (λ h. f.1 (g.1 h)))

-- two tests at once
pub both : (t u : Bool) {P Q : Type 0} → (IsTrue t ↔ P) → (IsTrue u ↔ Q) → IsTrue (t && u) ↔ (P × Q)
both true u f g = ((λ h. (f.0 refl, g.0 h)), (λ h. g.1 h.1))
both false u f g = ((λ h. absurd (false≢true h)), (λ h. absurd (false≢true (f.1 h.0))))

-- the distance of two numbers in order
pub distance_up : (x y : ℤ) → y ≤ℤ x → pos (unsigned_abs (x -ℤ y)) ≡ x -ℤ y
distance_up x y h = omega (arith, ints)
