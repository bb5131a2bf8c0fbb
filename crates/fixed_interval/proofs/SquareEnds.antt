-- The ends of a square hold the squares, and are narrower where the operand is.
use Rattle.std.proofs.Common.{◌≡◌, ◌*◌, ◌^◌, ◌≤◌, ◌≤ℤ◌, ◌*ℤ◌, ℕ, ℤ, pos, negsuc, refl, arith, inl}
use Rattle.std.proofs.lemmas.Int.{clamps, ints}
use Rattle.std.proofs.lemmas.Nat.{mul-le}
use Rattle.fixed_kernel.specs.Rows.{exact_abs}
use Rattle.fixed_interval.specs.Ends.{Ends, magnitude_of, square_of}
use Rattle.fixed_interval.specs.Containment.{HoldsSquares, IsWithin}
use Rattle.fixed_interval.proofs.ProductEnds.{corner_high, corner_low, some}
use Rattle.fixed_interval.proofs.Rounded.{ceiling_order, floor_below_ceiling, floor_order}
use Rattle.fixed_interval.proofs.SignEnds.{abs_from_zero, holds_magnitudes, magnitude_order, magnitude_within}

-- the square of a magnitude
pub abs_square : (x : ℤ) → exact_abs x *ℤ exact_abs x ≡ x *ℤ x
abs_square (pos n) = refl
abs_square (negsuc n) = omega (arith, ints)

pub square_le : (p q : ℤ) → pos 0 ≤ℤ p → p ≤ℤ q → (p *ℤ p) ≤ℤ (q *ℤ q)
square_le (pos m) (pos n) z h = let k : m * m ≤ n * n = mul-le m m n n (omega (arith, ints)) (omega (arith, ints)) in omega (arith, ints)
square_le (pos m) (negsuc n) z h = absurd (omega (arith, ints))
square_le (negsuc m) q z h = absurd (omega (arith, ints))

low_from_zero : (a : Ends) → pos 0 ≤ℤ (magnitude_of a).low
low_from_zero a = omega (arith, ints, clamps)

pub holds_squares : (a : Ends) (f : ℕ) → HoldsSquares a f (square_of a f)
holds_squares a f x d h i =
    let e = square_of a f in
    let m = magnitude_of a in
    let b = holds_magnitudes a x d h i in
    let z = low_from_zero a in
    let s = abs_square x in
    record {
      from_low =
          let k = square_le (m.low *ℤ pos d) (exact_abs x) (from_zero m.low d z) b.from_low in
          let c = corner_low e.low m.low m.low d f (omega (arith, ints)) in
          omega (arith, ints);
      to_high =
          let k = square_le (exact_abs x) (m.high *ℤ pos d) (abs_from_zero x) b.to_high in
          let c = corner_high e.high m.high m.high d f (omega (arith, ints)) in
          omega (arith, ints);
    }
  where
    from_zero : (p : ℤ) (d : ℕ) → pos 0 ≤ℤ p → pos 0 ≤ℤ (p *ℤ pos d)
    from_zero (pos n) d h = omega (arith, ints)
    from_zero (negsuc n) d h = absurd (omega (arith, ints))

pub square_order : (a : Ends) (f : ℕ) → a.low ≤ℤ a.high → (square_of a f).low ≤ℤ (square_of a f).high
square_order a f o =
    let m = magnitude_of a in
    let k = square_le m.low m.high (low_from_zero a) (magnitude_order a o) in
    let p = floor_order (m.low *ℤ m.low) (m.high *ℤ m.high) (pos (2 ^ f)) (some f) k in
    let q = floor_below_ceiling (m.high *ℤ m.high) (pos (2 ^ f)) (inl (some f)) in
    omega (arith, ints)

pub square_within : (a c : Ends) (f : ℕ) → IsWithin c a → IsWithin (square_of c f) (square_of a f)
square_within a c f w =
    let m = magnitude_of a in
    let n = magnitude_of c in
    let v = magnitude_within a c w in
    let l = square_le m.low n.low (low_from_zero a) v.from_low in
    let z = low_from_zero c in
    let o = v.ordered in
    let u = square_le n.high m.high (omega (arith, ints)) v.to_high in
    record {
      from_low = floor_order (m.low *ℤ m.low) (n.low *ℤ n.low) (pos (2 ^ f)) (some f) l;
      ordered = square_order c f w.ordered;
      to_high = ceiling_order (n.high *ℤ n.high) (m.high *ℤ m.high) (pos (2 ^ f)) (some f) u;
    }
