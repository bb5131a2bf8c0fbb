-- The ends of a negation and of a magnitude hold what they should, and are narrower where the operand is.
use Rattle.std.proofs.Common.{◌≡◌, ◌≤ℤ◌, ◌-ℤ◌, ◌*ℤ◌, ℤ, pos, negsuc, neg_ℤ, arith, ◌⊎◌, inl, inr}
use Rattle.std.proofs.lemmas.Int.{by_lt_z, clamps, ints}
use Rattle.fixed_kernel.specs.Rows.{exact_abs}
use Rattle.fixed_interval.specs.Ends.{Ends, magnitude_of, negation_of}
use Rattle.fixed_interval.specs.Containment.{HoldsMagnitudes, HoldsNegations, IsWithin}
use Rattle.fixed_interval.proofs.Lines.{neg_times, times_le}
use Rattle.fixed_interval.proofs.Corners.{inside_order}

pub holds_negations : (a : Ends) → HoldsNegations a (negation_of a)
holds_negations a x d h i =
    let l = i.from_low in
    let u = i.to_high in
    record { from_low = omega (arith, ints, neg_times a.high (pos d)); to_high = omega (arith, ints, neg_times a.low (pos d)) }

pub negation_within : (a c : Ends) → IsWithin c a → IsWithin (negation_of c) (negation_of a)
negation_within a c w =
    let l = w.from_low in
    let o = w.ordered in
    let u = w.to_high in
    record { from_low = omega (arith, ints); ordered = omega (arith, ints); to_high = omega (arith, ints) }

-- ---- magnitudes

-- a number and its negative are at most its magnitude, which is one of both
pub abs_above : (x : ℤ) → x ≤ℤ exact_abs x
abs_above (pos n) = omega (arith, ints)
abs_above (negsuc n) = omega (arith, ints)

pub abs_above_negative : (x : ℤ) → neg_ℤ x ≤ℤ exact_abs x
abs_above_negative (pos n) = omega (arith, ints)
abs_above_negative (negsuc n) = omega (arith, ints)

pub abs_from_zero : (x : ℤ) → pos 0 ≤ℤ exact_abs x
abs_from_zero x = omega (arith, ints)

pub abs_least : (x m : ℤ) → x ≤ℤ m → neg_ℤ x ≤ℤ m → exact_abs x ≤ℤ m
abs_least (pos n) m h k = omega (arith, ints)
abs_least (negsuc n) m h k = omega (arith, ints)

-- the least magnitude is that of the low end, of the high end, or 0
low_is : (a : Ends) → a.low ≤ℤ a.high → (((magnitude_of a).low ≡ pos 0) ⊎ ((magnitude_of a).low ≡ a.low)) ⊎ ((magnitude_of a).low ≡ neg_ℤ a.high)
low_is a o =
    by_lt_z (pos 0) a.low
    (λ l. inl (inr (omega (arith, ints, clamps))))
    (λ l. by_lt_z a.high (pos 0) (λ k. inr (omega (arith, ints, clamps))) (λ k. inl (inl (omega (arith, ints, clamps)))))

pub holds_magnitudes : (a : Ends) → HoldsMagnitudes a (magnitude_of a)
holds_magnitudes a x d h i = record { from_low = low (low_is a (inside_order x d a h i)); to_high = high }
  where
    m : Ends
    m = magnitude_of a

    low : ((m.low ≡ pos 0) ⊎ (m.low ≡ a.low)) ⊎ (m.low ≡ neg_ℤ a.high) → (m.low *ℤ pos d) ≤ℤ exact_abs x
    low (inl (inl e)) = rw e (omega (arith, ints))
    low (inl (inr e)) = let l = i.from_low in let k = abs_above x in rw e (omega (arith, ints))
    low (inr e) = let u = i.to_high in let k = abs_above_negative x in rw e (omega (arith, ints, neg_times a.high (pos d)))

    high : exact_abs x ≤ℤ (m.high *ℤ pos d)
    high =
        let l = i.from_low in
        let u = i.to_high in
        let p = times_le a.high m.high d (omega (arith, ints, clamps)) in
        let q = times_le (neg_ℤ a.low) m.high d (omega (arith, ints, clamps)) in
        abs_least x (m.high *ℤ pos d) (omega (arith, ints)) (omega (arith, ints, neg_times a.low (pos d)))

pub magnitude_order : (a : Ends) → a.low ≤ℤ a.high → (magnitude_of a).low ≤ℤ (magnitude_of a).high
magnitude_order a o = omega (arith, ints, clamps)

pub magnitude_within : (a c : Ends) → IsWithin c a → IsWithin (magnitude_of c) (magnitude_of a)
magnitude_within a c w =
    let l = w.from_low in
    let o = w.ordered in
    let u = w.to_high in
    record { from_low = omega (arith, ints, clamps); ordered = omega (arith, ints, clamps); to_high = omega (arith, ints, clamps) }

-- the distance from 0
pub distance_from_zero : (x : ℤ) → exact_abs (x -ℤ pos 0) ≡ exact_abs x
distance_from_zero x = let e : x -ℤ pos 0 ≡ x = omega (arith, ints) in rw e
