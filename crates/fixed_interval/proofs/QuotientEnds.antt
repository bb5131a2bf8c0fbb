-- The ends of a quotient hold the quotients, and are narrower where the operands are.
use Rattle.std.proofs.Common.{◌⊎◌, ◌^◌, ◌<◌, ◌≤ℤ◌, ◌<ℤ◌, ◌+ℤ◌, ◌*ℤ◌, ℕ, ℤ, pos, arith, inl, inr}
use Rattle.std.proofs.lemmas.Int.{ints}
use Rattle.fixed_interval.specs.Ends.{Ends, floor_over, ceiling_over, quotient_of}
use Rattle.fixed_word.proofs.Wraps.{suc_times}
use Rattle.fixed_interval.specs.Containment.{HoldsQuotients, IsInside, IsWithin}
use Rattle.fixed_interval.specs.inside.OffZero.{ExcludesZero}
use Rattle.fixed_interval.proofs.Lines.{line_high, line_low, times_assoc, times_le}
use Rattle.fixed_interval.proofs.Corners.{Brackets, corners_within, greatest_corner_above, inside_order, least_corner_below}
use Rattle.fixed_interval.proofs.Rounded.{ceiling_above, ceiling_below, floor_above, floor_below, floor_below_ceiling}

-- at an end r of the divisor, in units of 1 / d
moved_low : (m p r x : ℤ) (d k : ℕ) → (p *ℤ pos d) ≤ℤ x → (m *ℤ r) ≤ℤ (p *ℤ pos k) → (m *ℤ (r *ℤ pos d)) ≤ℤ (x *ℤ pos k)
moved_low m p r x d k i h =
    let s = times_le (m *ℤ r) (p *ℤ pos k) d h in
    let t = times_le (p *ℤ pos d) x k i in
    omega (arith, ints, times_assoc m r (pos d), times_assoc p (pos k) (pos d), times_assoc p (pos d) (pos k))

moved_high : (m p r x : ℤ) (d k : ℕ) → x ≤ℤ (p *ℤ pos d) → (p *ℤ pos k) ≤ℤ (m *ℤ r) → (x *ℤ pos k) ≤ℤ (m *ℤ (r *ℤ pos d))
moved_high m p r x d k i h =
    let s = times_le (p *ℤ pos k) (m *ℤ r) d h in
    let t = times_le x (p *ℤ pos d) k i in
    omega (arith, ints, times_assoc m r (pos d), times_assoc p (pos k) (pos d), times_assoc p (pos d) (pos k))

-- so between both ends, where x / d is at least p, or at most p
from_low : (m p x y : ℤ) (b : Ends) (d k : ℕ) → (p *ℤ pos d) ≤ℤ x → IsInside y d b → (m *ℤ b.low) ≤ℤ (p *ℤ pos k) → (m *ℤ b.high) ≤ℤ (p *ℤ pos k) → (m *ℤ y) ≤ℤ (x *ℤ pos k)
from_low m p x y b d k i j l u =
    line_high m (b.low *ℤ pos d) (b.high *ℤ pos d) y (x *ℤ pos k) j.from_low j.to_high (moved_low m p b.low x d k i l) (moved_low m p b.high x d k i u)

to_high : (m p x y : ℤ) (b : Ends) (d k : ℕ) → x ≤ℤ (p *ℤ pos d) → IsInside y d b → (p *ℤ pos k) ≤ℤ (m *ℤ b.low) → (p *ℤ pos k) ≤ℤ (m *ℤ b.high) → (x *ℤ pos k) ≤ℤ (m *ℤ y)
to_high m p x y b d k i j l u =
    line_low m (b.low *ℤ pos d) (b.high *ℤ pos d) y (x *ℤ pos k) j.from_low j.to_high (moved_high m p b.low x d k i l) (moved_high m p b.high x d k i u)

-- so b lies on one side of 0, and what is inside b does
record IsAbove (b : Ends) (y : ℤ) : Type 0 where
  low : pos 0 <ℤ b.low
  high : pos 0 <ℤ b.high
  inside : pos 0 <ℤ y

record IsBelow (b : Ends) (y : ℤ) : Type 0 where
  low : b.low <ℤ pos 0
  high : b.high <ℤ pos 0
  inside : y <ℤ pos 0

sides : (y : ℤ) (d : ℕ) (b : Ends) → 0 < d → IsInside y d b → ExcludesZero b → IsAbove b y ⊎ IsBelow b y
sides y d b h j (inl some) =
    let order = inside_order y d b h j in
    let low = j.from_low in
    let one : pos 1 ≤ℤ b.low = omega (arith, ints) in
    let t = times_le (pos 1) b.low d one in
    inl (record { low = some; high = omega (arith, ints); inside = omega (arith, ints) })
sides y d b h j (inr some) =
    let order = inside_order y d b h j in
    let high = j.to_high in
    let one : (b.high +ℤ pos 1) ≤ℤ pos 0 = omega (arith, ints) in
    let t = times_le (b.high +ℤ pos 1) (pos 0) d one in
    inr (record { low = omega (arith, ints); high = some; inside = omega (arith, ints, suc_times b.high d) })

pub holds_quotients : (a b : Ends) (f : ℕ) → ExcludesZero b → HoldsQuotients a b f (quotient_of a b f)
holds_quotients a b f o x y d h i j =
    let e = quotient_of a b f in
    let l = least_corner_below (λ x y. floor_over (x *ℤ pos (2 ^ f)) y) a b in
    let u = greatest_corner_above (λ x y. ceiling_over (x *ℤ pos (2 ^ f)) y) a b in
    elim (sides y d b h j o) [
      | inl s ↦
          let some = s.inside in
          let first = from_low e.low a.low x y b d (2 ^ f) i.from_low j ((floor_above e.low (a.low *ℤ pos (2 ^ f)) b.low s.low).0 l.low_low) ((floor_above e.low (a.low *ℤ pos (2 ^ f)) b.high s.high).0 l.low_high) in
          let second = to_high e.high a.high x y b d (2 ^ f) i.to_high j ((ceiling_above e.high (a.high *ℤ pos (2 ^ f)) b.low s.low).0 u.high_low) ((ceiling_above e.high (a.high *ℤ pos (2 ^ f)) b.high s.high).0 u.high_high) in
          record { above = λ _. (first, second); below = λ n. absurd (omega (arith, ints)) }
      | inr s ↦
          let some = s.inside in
          let first = from_low e.high a.low x y b d (2 ^ f) i.from_low j ((ceiling_below e.high (a.low *ℤ pos (2 ^ f)) b.low s.low).0 u.low_low) ((ceiling_below e.high (a.low *ℤ pos (2 ^ f)) b.high s.high).0 u.low_high) in
          let second = to_high e.low a.high x y b d (2 ^ f) i.to_high j ((floor_below e.low (a.high *ℤ pos (2 ^ f)) b.low s.low).0 l.high_low) ((floor_below e.low (a.high *ℤ pos (2 ^ f)) b.high s.high).0 l.high_high) in
          record { above = λ n. absurd (omega (arith, ints)); below = λ _. (first, second) }
    ]

pub quotient_within : (a b c d : Ends) (f : ℕ) → ExcludesZero b → IsWithin c a → IsWithin d b → IsWithin (quotient_of c d f) (quotient_of a b f)
quotient_within a b c d f o v w =
    corners_within (λ x y. floor_over (x *ℤ pos (2 ^ f)) y) (λ x y. ceiling_over (x *ℤ pos (2 ^ f)) y) a b c d v w between
  where
    between : (x y : ℤ) → IsInside x 1 a → IsInside y 1 b → Brackets (λ x y. floor_over (x *ℤ pos (2 ^ f)) y) (λ x y. ceiling_over (x *ℤ pos (2 ^ f)) y) (quotient_of a b f) x y
    between x y i j =
        let e = quotient_of a b f in
        let q = holds_quotients a b f o x y 1 (omega arith) i j in
        elim (sides y 1 b (omega arith) j o) [
          | inl s ↦ record {
            low = (floor_above e.low (x *ℤ pos (2 ^ f)) y s.inside).1 (q.above s.inside).0;
            order = floor_below_ceiling (x *ℤ pos (2 ^ f)) y (inl s.inside);
            high = (ceiling_above e.high (x *ℤ pos (2 ^ f)) y s.inside).1 (q.above s.inside).1;
          }
          | inr s ↦ record {
            low = (floor_below e.low (x *ℤ pos (2 ^ f)) y s.inside).1 (q.below s.inside).1;
            order = floor_below_ceiling (x *ℤ pos (2 ^ f)) y (inr s.inside);
            high = (ceiling_below e.high (x *ℤ pos (2 ^ f)) y s.inside).1 (q.below s.inside).0;
          }
        ]

pub quotient_order : (a b : Ends) (f : ℕ) → ExcludesZero b → (quotient_of a b f).low ≤ℤ (quotient_of a b f).high
quotient_order a b f o =
    let l = least_corner_below (λ x y. floor_over (x *ℤ pos (2 ^ f)) y) a b in
    let u = greatest_corner_above (λ x y. ceiling_over (x *ℤ pos (2 ^ f)) y) a b in
    elim o [
      | inl some ↦ omega (arith, ints, l.low_low, floor_below_ceiling (a.low *ℤ pos (2 ^ f)) b.low (inl some), u.low_low)
      | inr some ↦ omega (arith, ints, l.low_high, floor_below_ceiling (a.low *ℤ pos (2 ^ f)) b.high (inr some), u.low_high)
    ]
