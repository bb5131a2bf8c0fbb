-- The ends of a product hold the products, and are narrower where the operands are.
use Rattle.std.proofs.Common.{◌*◌, ◌^◌, ◌≤ℤ◌, ◌<ℤ◌, ◌*ℤ◌, ℕ, ℤ, pos, arith, inl}
use Rattle.std.proofs.lemmas.Int.{ints}
use Rattle.std.proofs.lemmas.Nat.{pow_pos}
use Rattle.fixed_interval.specs.Ends.{Ends, ceiling_over, floor_over, product_of}
use Rattle.fixed_interval.specs.Containment.{HoldsProducts, IsInside, IsWithin}
use Rattle.fixed_interval.proofs.Lines.{scaled_product, times_assoc, times_le}
use Rattle.fixed_interval.proofs.Corners.{Brackets, corners_high, corners_low, corners_within, greatest_corner_above, least_corner_below}
use Rattle.fixed_interval.proofs.Rounded.{ceiling_above, floor_above, floor_below_ceiling}

-- the divisor is above 0
pub some : (f : ℕ) → pos 0 <ℤ pos (2 ^ f)
some f = omega (arith, ints, pow_pos f)

-- a product at a corner, in units of 1 / d
pub corner_low : (m p r : ℤ) (d f : ℕ) → m ≤ℤ floor_over (p *ℤ r) (pos (2 ^ f)) → (m *ℤ pos (d * d * 2 ^ f)) ≤ℤ ((p *ℤ pos d) *ℤ (r *ℤ pos d))
corner_low m p r d f h =
    let l = (floor_above m (p *ℤ r) (pos (2 ^ f)) (some f)).0 h in
    let t = times_le (m *ℤ pos (2 ^ f)) (p *ℤ r) (d * d) l in
    omega (arith, ints, times_assoc m (pos (2 ^ f)) (pos (d * d)), scaled_product p r d)

pub corner_high : (m p r : ℤ) (d f : ℕ) → ceiling_over (p *ℤ r) (pos (2 ^ f)) ≤ℤ m → ((p *ℤ pos d) *ℤ (r *ℤ pos d)) ≤ℤ (m *ℤ pos (d * d * 2 ^ f))
corner_high m p r d f h =
    let l = (ceiling_above m (p *ℤ r) (pos (2 ^ f)) (some f)).0 h in
    let t = times_le (p *ℤ r) (m *ℤ pos (2 ^ f)) (d * d) l in
    omega (arith, ints, times_assoc m (pos (2 ^ f)) (pos (d * d)), scaled_product p r d)

-- the ends in units of 1 / d
scaled : Ends → ℕ → Ends
scaled a d = record { low = a.low *ℤ pos d; high = a.high *ℤ pos d }

pub holds_products : (a b : Ends) (f : ℕ) → HoldsProducts a b f (product_of a b f)
unfolding scaled
holds_products a b f x y d h i j =
    let e = product_of a b f in
    let l = least_corner_below (λ x y. floor_over (x *ℤ y) (pos (2 ^ f))) a b in
    let u = greatest_corner_above (λ x y. ceiling_over (x *ℤ y) (pos (2 ^ f))) a b in
    record {
      from_low = corners_low (scaled a d) (scaled b d) x y (e.low *ℤ pos (d * d * 2 ^ f)) i.from_low i.to_high j.from_low j.to_high (record {
        low_low = corner_low e.low a.low b.low d f l.low_low;
        low_high = corner_low e.low a.low b.high d f l.low_high;
        high_low = corner_low e.low a.high b.low d f l.high_low;
        high_high = corner_low e.low a.high b.high d f l.high_high;
      });
      to_high = corners_high (scaled a d) (scaled b d) x y (e.high *ℤ pos (d * d * 2 ^ f)) i.from_low i.to_high j.from_low j.to_high (record {
        low_low = corner_high e.high a.low b.low d f u.low_low;
        low_high = corner_high e.high a.low b.high d f u.low_high;
        high_low = corner_high e.high a.high b.low d f u.high_low;
        high_high = corner_high e.high a.high b.high d f u.high_high;
      });
    }

pub product_within : (a b c d : Ends) (f : ℕ) → IsWithin c a → IsWithin d b → IsWithin (product_of c d f) (product_of a b f)
product_within a b c d f v w =
    corners_within (λ x y. floor_over (x *ℤ y) (pos (2 ^ f))) (λ x y. ceiling_over (x *ℤ y) (pos (2 ^ f))) a b c d v w between
  where
    between : (x y : ℤ) → IsInside x 1 a → IsInside y 1 b → Brackets (λ x y. floor_over (x *ℤ y) (pos (2 ^ f))) (λ x y. ceiling_over (x *ℤ y) (pos (2 ^ f))) (product_of a b f) x y
    between x y i j =
        let e = product_of a b f in
        let p = holds_products a b f x y 1 (omega arith) i j in
        let l = p.from_low in
        let u = p.to_high in
        record {
          low = (floor_above e.low (x *ℤ y) (pos (2 ^ f)) (some f)).1 (omega (arith, ints));
          order = floor_below_ceiling (x *ℤ y) (pos (2 ^ f)) (inl (some f));
          high = (ceiling_above e.high (x *ℤ y) (pos (2 ^ f)) (some f)).1 (omega (arith, ints));
        }

pub product_order : (a b : Ends) (f : ℕ) → (product_of a b f).low ≤ℤ (product_of a b f).high
product_order a b f =
    let l = least_corner_below (λ x y. floor_over (x *ℤ y) (pos (2 ^ f))) a b in
    let u = greatest_corner_above (λ x y. ceiling_over (x *ℤ y) (pos (2 ^ f))) a b in
    omega (arith, ints, l.low_low, floor_below_ceiling (a.low *ℤ b.low) (pos (2 ^ f)) (inl (some f)), u.low_low)
