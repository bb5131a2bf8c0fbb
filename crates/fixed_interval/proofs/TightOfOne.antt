-- Whatever has all negatives, magnitudes or squares of an interval has their ends.
use Rattle.std.proofs.Common.{◌≡◌, ◌^◌, ◌≤ℤ◌, ◌*ℤ◌, ℕ, ℤ, pos, neg_ℤ, sym, ap, ◌∙◌, arith, subst}
use Rattle.std.proofs.lemmas.Int.{by_lt_z, clamps, ints}
use Rattle.std.proofs.lemmas.Option.{same_Some}
use Rattle.fixed_kernel.specs.Rows.{exact_abs}
use Rattle.fixed_interval.specs.Ends.{Ends, ceiling_over, floor_over, magnitude_ends, magnitude_of, negation_ends, negation_of, square_ends, square_of}
use Rattle.fixed_interval.specs.Containment.{HoldsMagnitudes, HoldsNegations, HoldsSquares, IsInside, IsTightOfOne}
use Rattle.fixed_interval.proofs.Tight.{at_one, high_one, low_one, product_high, product_low, to_ends}
use Rattle.fixed_interval.proofs.SquareEnds.{abs_square}

pub negation_tight : IsTightOfOne negation_ends HoldsNegations
negation_tight a e r p is h =
    let low = h a.low 1 (omega arith) (low_one a p) in
    let high = h a.high 1 (omega arith) (high_one a p) in
    let l = high.from_low in
    let u = low.to_high in
    to_ends r (negation_of a) e (same_Some (negation_of a) e is) (record { from_low = omega (arith, ints); to_high = omega (arith, ints) })

-- a number between the ends whose magnitude is m
record HasMagnitude (a : Ends) (m : ℤ) : Type 0 where
  pub number : ℤ
  pub inside : IsInside number 1 a
  pub is : exact_abs number ≡ m

magnitude_is : (x m : ℤ) → (x ≡ m) → pos 0 ≤ℤ m → exact_abs x ≡ m
magnitude_is x m e h = omega (arith, ints)

negative_is : (x m : ℤ) → (neg_ℤ x ≡ m) → pos 0 ≤ℤ m → exact_abs x ≡ m
negative_is x m e h = omega (arith, ints)

nearest : (a : Ends) → a.low ≤ℤ a.high → HasMagnitude a (magnitude_of a).low
nearest a o =
    by_lt_z (pos 0) a.low
    (λ l. record { number = a.low; inside = low_one a o; is = magnitude_is a.low (magnitude_of a).low (omega (arith, ints, clamps)) (omega (arith, ints, clamps)) })
    (λ l. by_lt_z a.high (pos 0)
    (λ k. record { number = a.high; inside = high_one a o; is = negative_is a.high (magnitude_of a).low (omega (arith, ints, clamps)) (omega (arith, ints, clamps)) })
    (λ k. record { number = pos 0; inside = at_one (pos 0) a l k; is = omega (arith, ints, clamps) }))

farthest : (a : Ends) → a.low ≤ℤ a.high → HasMagnitude a (magnitude_of a).high
farthest a o =
    by_lt_z a.high (neg_ℤ a.low)
    (λ l. record { number = a.low; inside = low_one a o; is = negative_is a.low (magnitude_of a).high (omega (arith, ints, clamps)) (omega (arith, ints, clamps)) })
    (λ l. record { number = a.high; inside = high_one a o; is = magnitude_is a.high (magnitude_of a).high (omega (arith, ints, clamps)) (omega (arith, ints, clamps)) })

pub magnitude_tight : IsTightOfOne magnitude_ends HoldsMagnitudes
magnitude_tight a e r p is h =
    let near = nearest a p in
    let far = farthest a p in
    let l = (h near.number 1 (omega arith) near.inside).from_low in
    let u = (h far.number 1 (omega arith) far.inside).to_high in
    let n = near.is in
    let f = far.is in
    to_ends r (magnitude_of a) e (same_Some (magnitude_of a) e is) (record { from_low = omega (arith, ints); to_high = omega (arith, ints) })

-- the square of a number of magnitude m
squared : (x m : ℤ) → exact_abs x ≡ m → x *ℤ x ≡ m *ℤ m
squared x m e = sym (abs_square x) ∙ ap (λ (v : ℤ). v *ℤ v) e

pub square_tight : (f : ℕ) → IsTightOfOne (λ a. square_ends a f) (λ a r. HoldsSquares a f r)
square_tight f a e r p is h =
    let near = nearest a p in
    let far = farthest a p in
    let l = product_low f r near.number near.number (h near.number 1 (omega arith) near.inside) in
    let u = product_high f r far.number far.number (h far.number 1 (omega arith) far.inside) in
    to_ends r (square_of a f) e (same_Some (square_of a f) e is) (record {
      from_low = subst (λ (v : ℤ). r.low ≤ℤ floor_over v (pos (2 ^ f))) (squared near.number (magnitude_of a).low near.is) l;
      to_high = subst (λ (v : ℤ). ceiling_over v (pos (2 ^ f)) ≤ℤ r.high) (squared far.number (magnitude_of a).high far.is) u;
    })
