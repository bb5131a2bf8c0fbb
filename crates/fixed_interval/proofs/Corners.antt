-- The corners of two intervals: an end of the one and an end of the other.
use Rattle.std.proofs.Common.{◌<◌, ◌≤ℤ◌, ◌*ℤ◌, ℕ, ℤ, arith}
use Rattle.std.proofs.lemmas.Int.{ints, clamps}
use Rattle.std.proofs.Math.IntN.{*ℤ_comm}
use Rattle.fixed_interval.specs.Ends.{Ends, corner_ends, greatest_corner, least_corner}
use Rattle.fixed_interval.specs.Containment.{IsInside, IsWithin}
use Rattle.fixed_interval.proofs.Lines.{line_high, line_low, times_cancel}

-- P holds at each corner
pub record AtCorners (a b : Ends) (P : ℤ → ℤ → Type 0) : Type 0 where
  pub low_low : P a.low b.low
  pub low_high : P a.low b.high
  pub high_low : P a.high b.low
  pub high_high : P a.high b.high

-- ---- the least corner and the greatest

pub least_corner_below : (g : ℤ → ℤ → ℤ) (a b : Ends) → AtCorners a b (λ x y. least_corner g a b ≤ℤ g x y)
least_corner_below g a b = record { low_low = omega (arith, ints, clamps); low_high = omega (arith, ints, clamps); high_low = omega (arith, ints, clamps); high_high = omega (arith, ints, clamps) }

pub below_least_corner : (m : ℤ) (g : ℤ → ℤ → ℤ) (a b : Ends) → AtCorners a b (λ x y. m ≤ℤ g x y) → m ≤ℤ least_corner g a b
below_least_corner m g a b h = omega (arith, ints, clamps, h.low_low, h.low_high, h.high_low, h.high_high)

pub greatest_corner_above : (g : ℤ → ℤ → ℤ) (a b : Ends) → AtCorners a b (λ x y. g x y ≤ℤ greatest_corner g a b)
greatest_corner_above g a b = record { low_low = omega (arith, ints, clamps); low_high = omega (arith, ints, clamps); high_low = omega (arith, ints, clamps); high_high = omega (arith, ints, clamps) }

pub above_greatest_corner : (m : ℤ) (g : ℤ → ℤ → ℤ) (a b : Ends) → AtCorners a b (λ x y. g x y ≤ℤ m) → greatest_corner g a b ≤ℤ m
above_greatest_corner m g a b h = omega (arith, ints, clamps, h.low_low, h.low_high, h.high_low, h.high_high)

-- ---- a product of a number in a and one in b lies between the products at the corners

pub corners_low : (a b : Ends) (x y m : ℤ) → a.low ≤ℤ x → x ≤ℤ a.high → b.low ≤ℤ y → y ≤ℤ b.high → AtCorners a b (λ p r. m ≤ℤ (p *ℤ r)) → m ≤ℤ (x *ℤ y)
corners_low a b x y m h i j k c =
    let low = line_low a.low b.low b.high y m j k c.low_low c.low_high in
    let high = line_low a.high b.low b.high y m j k c.high_low c.high_high in
    rw (*ℤ_comm x y) (line_low y a.low a.high x m h i (rw (*ℤ_comm y a.low) low) (rw (*ℤ_comm y a.high) high))

pub corners_high : (a b : Ends) (x y m : ℤ) → a.low ≤ℤ x → x ≤ℤ a.high → b.low ≤ℤ y → y ≤ℤ b.high → AtCorners a b (λ p r. (p *ℤ r) ≤ℤ m) → (x *ℤ y) ≤ℤ m
corners_high a b x y m h i j k c =
    let low = line_high a.low b.low b.high y m j k c.low_low c.low_high in
    let high = line_high a.high b.low b.high y m j k c.high_low c.high_high in
    rw (*ℤ_comm x y) (line_high y a.low a.high x m h i (rw (*ℤ_comm y a.low) low) (rw (*ℤ_comm y a.high) high))

-- ---- intervals inside intervals

-- the ends that hold something are in order
pub inside_order : (x : ℤ) (d : ℕ) (e : Ends) → 0 < d → IsInside x d e → e.low ≤ℤ e.high
inside_order x d e h i =
    let l = i.from_low in
    let u = i.to_high in
    times_cancel e.low e.high d h (omega (arith, ints))

-- the ends of an interval within e are rationals over 1 inside e
low_inside : (a e : Ends) → IsWithin a e → IsInside a.low 1 e
low_inside a e w =
    let l = w.from_low in
    let o = w.ordered in
    let h = w.to_high in
    record { from_low = omega (arith, ints); to_high = omega (arith, ints) }

high_inside : (a e : Ends) → IsWithin a e → IsInside a.high 1 e
high_inside a e w =
    let l = w.from_low in
    let o = w.ordered in
    let h = w.to_high in
    record { from_low = omega (arith, ints); to_high = omega (arith, ints) }

-- what holds of each two numbers inside holds at the corners of narrower intervals
each_corner : (a b c d : Ends) (P : ℤ → ℤ → Type 0) → IsWithin c a → IsWithin d b → ((x y : ℤ) → IsInside x 1 a → IsInside y 1 b → P x y) → AtCorners c d P
each_corner a b c d P v w h = record {
  low_low = h c.low d.low (low_inside c a v) (low_inside d b w);
  low_high = h c.low d.high (low_inside c a v) (high_inside d b w);
  high_low = h c.high d.low (high_inside c a v) (low_inside d b w);
  high_high = h c.high d.high (high_inside c a v) (high_inside d b w);
}

-- the ends at the corners, where g rounds down and h up, and the ends lie on both sides of each two numbers inside
pub record Brackets (g h : ℤ → ℤ → ℤ) (e : Ends) (x y : ℤ) : Type 0 where
  pub low : e.low ≤ℤ g x y
  pub order : g x y ≤ℤ h x y
  pub high : h x y ≤ℤ e.high

pub corners_within : (g h : ℤ → ℤ → ℤ) (a b c d : Ends) → IsWithin c a → IsWithin d b → ((x y : ℤ) → IsInside x 1 a → IsInside y 1 b → Brackets g h (corner_ends g h a b) x y) → IsWithin (corner_ends g h c d) (corner_ends g h a b)
corners_within g h a b c d v w k =
    let e = corner_ends g h a b in
    let least = (least_corner_below g c d).low_low in
    let middle = (k c.low d.low (low_inside c a v) (low_inside d b w)).order in
    let greatest = (greatest_corner_above h c d).low_low in
    record {
      from_low = below_least_corner e.low g c d (each_corner a b c d (λ x y. e.low ≤ℤ g x y) v w (λ x y i j. (k x y i j).low));
      ordered = omega (arith, ints, least, middle, greatest);
      to_high = above_greatest_corner e.high h c d (each_corner a b c d (λ x y. h x y ≤ℤ e.high) v w (λ x y i j. (k x y i j).high));
    }
