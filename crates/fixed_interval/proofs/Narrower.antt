-- The narrower the operands, the narrower the ends.
use Rattle.std.proofs.Common.{ℕ, arith, inl, inr}
use Rattle.std.proofs.lemmas.Int.{ints}
use Rattle.fixed_interval.specs.Ends.{Ends, difference_of, difference_ends, magnitude_ends, magnitude_of, negation_ends, negation_of, product_of, product_ends, quotient_of, quotient_ends, root_ends, root_of_ends, square_ends, square_of, sum_of, sum_ends}
use Rattle.fixed_interval.specs.Containment.{IsMonotone, IsMonotoneOfOne, IsWithin}
use Rattle.fixed_interval.specs.inside.OffZero.{ExcludesZero}
use Rattle.fixed_interval.proofs.Fitting.{fitting_defined, narrower, quotient_defined, quotient_is, root_defined, root_is}
use Rattle.fixed_interval.proofs.ProductEnds.{product_within}
use Rattle.fixed_interval.proofs.QuotientEnds.{quotient_within}
use Rattle.fixed_interval.proofs.RootEnds.{root_within}
use Rattle.fixed_interval.proofs.SignEnds.{magnitude_within, negation_within}
use Rattle.fixed_interval.proofs.SquareEnds.{square_within}
use Rattle.fixed_interval.proofs.SumEnds.{difference_within, sum_within}

pub sum_narrower : IsMonotone sum_ends
sum_narrower s n a b c d e v w h = narrower s n (sum_of a b) (sum_of c d) e (sum_within a b c d v w) h

pub difference_narrower : IsMonotone difference_ends
difference_narrower s n a b c d e v w h = narrower s n (difference_of a b) (difference_of c d) e (difference_within a b c d v w) h

pub product_narrower : (f : ℕ) → IsMonotone (λ a b. product_ends a b f)
product_narrower f s n a b c d e v w h = narrower s n (product_of a b f) (product_of c d f) e (product_within a b c d f v w) h

off_zero_within : (b d : Ends) → ExcludesZero b → IsWithin d b → ExcludesZero d
off_zero_within b d (inl some) w = let l = w.from_low in inl (omega (arith, ints))
off_zero_within b d (inr some) w = let h = w.to_high in inr (omega (arith, ints))

pub quotient_narrower : (f : ℕ) → IsMonotone (λ a b. quotient_ends a b f)
quotient_narrower f s n a b c d e v w h =
    let off = (quotient_defined a b e f (fitting_defined s n (quotient_ends a b f) e h)).0 in
    let old = rw (quotient_is a b f off) at h in
    rw (quotient_is c d f (off_zero_within b d off w)) (narrower s n (quotient_of a b f) (quotient_of c d f) e (quotient_within a b c d f off v w) old)

pub root_narrower : (f : ℕ) → IsMonotoneOfOne (λ a. root_ends a f)
root_narrower f s n a c e v h =
    let from_zero = (root_defined a e f (fitting_defined s n (root_ends a f) e h)).0 in
    let old = rw (root_is a f from_zero) at h in
    let l = v.from_low in
    rw (root_is c f (omega (arith, ints))) (narrower s n (root_of_ends a f) (root_of_ends c f) e (root_within a c f from_zero v) old)

pub negation_narrower : IsMonotoneOfOne negation_ends
negation_narrower s n a c e v h = narrower s n (negation_of a) (negation_of c) e (negation_within a c v) h

pub magnitude_narrower : IsMonotoneOfOne magnitude_ends
magnitude_narrower s n a c e v h = narrower s n (magnitude_of a) (magnitude_of c) e (magnitude_within a c v) h

pub square_narrower : (f : ℕ) → IsMonotoneOfOne (λ a. square_ends a f)
square_narrower f s n a c e v h = narrower s n (square_of a f) (square_of c f) e (square_within a c f v) h
