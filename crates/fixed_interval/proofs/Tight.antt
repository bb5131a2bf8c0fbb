-- Whatever has all that an operation makes of two intervals has its ends.
use Rattle.std.proofs.Common.{◌≡◌, ◌*◌, ◌^◌, ◌≤ℤ◌, ◌<ℤ◌, ◌*ℤ◌, ℕ, ℤ, pos, ◌⊎◌, inl, inr, subst, arith}
use Rattle.std.proofs.lemmas.Int.{ints}
use Rattle.std.proofs.lemmas.Nat.{pow_pos}
use Rattle.std.proofs.lemmas.Option.{same_Some}
use Rattle.fixed_root.specs.Root.{root_of}
use Rattle.fixed_root.proofs.RootLaws.{root_of_is}
use Rattle.fixed_interval.specs.Ends.{Ends, ceiling_over, floor_over, difference_ends, difference_of, product_ends, product_of, quotient_ends, quotient_of, root_ends, root_of_ends, sum_ends, sum_of}
use Rattle.fixed_interval.specs.Containment.{Encloses, HoldsDifferences, HoldsProducts, HoldsQuotients, HoldsRoots, HoldsSums, IsInside, IsInsideOver, IsTight, IsTightOfOne}
use Rattle.fixed_interval.specs.inside.OffZero.{ExcludesZero}
use Rattle.fixed_interval.proofs.Corners.{above_greatest_corner, below_least_corner}
use Rattle.fixed_interval.proofs.Fitting.{quotient_defined, root_defined}
use Rattle.fixed_interval.proofs.Rounded.{ceiling_above, ceiling_below, floor_above, floor_below}
use Rattle.fixed_interval.proofs.RootEnds.{ceiling_root_is, square_at_most}

-- a number between the ends, over 1
pub at_one : (x : ℤ) (e : Ends) → e.low ≤ℤ x → x ≤ℤ e.high → IsInside x 1 e
at_one x e l h = record { from_low = omega (arith, ints); to_high = omega (arith, ints) }

pub low_one : (e : Ends) → e.low ≤ℤ e.high → IsInside e.low 1 e
low_one e o = at_one e.low e (omega (arith, ints)) o

pub high_one : (e : Ends) → e.low ≤ℤ e.high → IsInside e.high 1 e
high_one e o = at_one e.high e o (omega (arith, ints))

pub to_ends : (r e f : Ends) → e ≡ f → Encloses r e → Encloses r f
to_ends r e f is h = subst (λ (x : Ends). Encloses r x) is h

pub sum_tight : IsTight sum_ends HoldsSums
sum_tight a b e r p q is h =
    let low = h a.low b.low 1 (omega arith) (low_one a p) (low_one b q) in
    let high = h a.high b.high 1 (omega arith) (high_one a p) (high_one b q) in
    let l = low.from_low in
    let u = high.to_high in
    to_ends r (sum_of a b) e (same_Some (sum_of a b) e is) (record { from_low = omega (arith, ints); to_high = omega (arith, ints) })

pub difference_tight : IsTight difference_ends HoldsDifferences
difference_tight a b e r p q is h =
    let low = h a.low b.high 1 (omega arith) (low_one a p) (high_one b q) in
    let high = h a.high b.low 1 (omega arith) (high_one a p) (low_one b q) in
    let l = low.from_low in
    let u = high.to_high in
    to_ends r (difference_of a b) e (same_Some (difference_of a b) e is) (record { from_low = omega (arith, ints); to_high = omega (arith, ints) })

module _ (f : ℕ) (r : Ends) where
  -- ---- products
  pub product_low : (x y : ℤ) → IsInside (x *ℤ y) (1 * 1 * 2 ^ f) r → r.low ≤ℤ floor_over (x *ℤ y) (pos (2 ^ f))
  product_low x y i =
      let one : 1 * 1 * 2 ^ f ≡ 2 ^ f = omega arith in
      let some = pow_pos f in
      (floor_above r.low (x *ℤ y) (pos (2 ^ f)) (omega (arith, ints))).1 (subst (λ (n : ℕ). (r.low *ℤ pos n) ≤ℤ (x *ℤ y)) one i.from_low)

  pub product_high : (x y : ℤ) → IsInside (x *ℤ y) (1 * 1 * 2 ^ f) r → ceiling_over (x *ℤ y) (pos (2 ^ f)) ≤ℤ r.high
  product_high x y i =
      let one : 1 * 1 * 2 ^ f ≡ 2 ^ f = omega arith in
      let some = pow_pos f in
      (ceiling_above r.high (x *ℤ y) (pos (2 ^ f)) (omega (arith, ints))).1 (subst (λ (n : ℕ). (x *ℤ y) ≤ℤ (r.high *ℤ pos n)) one i.to_high)

  -- ---- quotients, at a divisor of either sign
  quotient_low : (x y : ℤ) (s : (pos 0 <ℤ y) ⊎ (y <ℤ pos 0)) → IsInsideOver x y f r → r.low ≤ℤ floor_over (x *ℤ pos (2 ^ f)) y
  quotient_low x y (inl above) i = (floor_above r.low (x *ℤ pos (2 ^ f)) y above).1 (i.above above).0
  quotient_low x y (inr below) i = (floor_below r.low (x *ℤ pos (2 ^ f)) y below).1 (i.below below).1

  quotient_high : (x y : ℤ) (s : (pos 0 <ℤ y) ⊎ (y <ℤ pos 0)) → IsInsideOver x y f r → ceiling_over (x *ℤ pos (2 ^ f)) y ≤ℤ r.high
  quotient_high x y (inl above) i = (ceiling_above r.high (x *ℤ pos (2 ^ f)) y above).1 (i.above above).1
  quotient_high x y (inr below) i = (ceiling_below r.high (x *ℤ pos (2 ^ f)) y below).1 (i.below below).0

low_sign : (b : Ends) → b.low ≤ℤ b.high → ExcludesZero b → (pos 0 <ℤ b.low) ⊎ (b.low <ℤ pos 0)
low_sign b o (inl above) = inl above
low_sign b o (inr below) = inr (omega (arith, ints))

high_sign : (b : Ends) → b.low ≤ℤ b.high → ExcludesZero b → (pos 0 <ℤ b.high) ⊎ (b.high <ℤ pos 0)
high_sign b o (inl above) = inl (omega (arith, ints))
high_sign b o (inr below) = inr below

pub product_tight : (f : ℕ) → IsTight (λ a b. product_ends a b f) (λ a b r. HoldsProducts a b f r)
product_tight f a b e r p q is h =
    let ll = h a.low b.low 1 (omega arith) (low_one a p) (low_one b q) in
    let lh = h a.low b.high 1 (omega arith) (low_one a p) (high_one b q) in
    let hl = h a.high b.low 1 (omega arith) (high_one a p) (low_one b q) in
    let hh = h a.high b.high 1 (omega arith) (high_one a p) (high_one b q) in
    to_ends r (product_of a b f) e (same_Some (product_of a b f) e is) (record {
      from_low = below_least_corner r.low (λ x y. floor_over (x *ℤ y) (pos (2 ^ f))) a b (record {
        low_low = product_low f r a.low b.low ll;
        low_high = product_low f r a.low b.high lh;
        high_low = product_low f r a.high b.low hl;
        high_high = product_low f r a.high b.high hh;
      });
      to_high = above_greatest_corner r.high (λ x y. ceiling_over (x *ℤ y) (pos (2 ^ f))) a b (record {
        low_low = product_high f r a.low b.low ll;
        low_high = product_high f r a.low b.high lh;
        high_low = product_high f r a.high b.low hl;
        high_high = product_high f r a.high b.high hh;
      });
    })

pub quotient_tight : (f : ℕ) → IsTight (λ a b. quotient_ends a b f) (λ a b r. HoldsQuotients a b f r)
quotient_tight f a b e r p q is h =
    let defined = quotient_defined a b e f is in
    let low = low_sign b q defined.0 in
    let high = high_sign b q defined.0 in
    let ll = h a.low b.low 1 (omega arith) (low_one a p) (low_one b q) in
    let lh = h a.low b.high 1 (omega arith) (low_one a p) (high_one b q) in
    let hl = h a.high b.low 1 (omega arith) (high_one a p) (low_one b q) in
    let hh = h a.high b.high 1 (omega arith) (high_one a p) (high_one b q) in
    to_ends r (quotient_of a b f) e defined.1 (record {
      from_low = below_least_corner r.low (λ x y. floor_over (x *ℤ pos (2 ^ f)) y) a b (record {
        low_low = quotient_low f r a.low b.low low ll;
        low_high = quotient_low f r a.low b.high high lh;
        high_low = quotient_low f r a.high b.low low hl;
        high_high = quotient_low f r a.high b.high high hh;
      });
      to_high = above_greatest_corner r.high (λ x y. ceiling_over (x *ℤ pos (2 ^ f)) y) a b (record {
        low_low = quotient_high f r a.low b.low low ll;
        low_high = quotient_high f r a.low b.high high lh;
        high_low = quotient_high f r a.high b.low low hl;
        high_high = quotient_high f r a.high b.high high hh;
      });
    })

pub root_tight : (f : ℕ) → IsTightOfOne (λ a. root_ends a f) (λ a r. HoldsRoots a f r)
root_tight f a e r p is h =
    let defined = root_defined a e f is in
    let low = h a.low 1 (omega arith) (low_one a p) in
    let high = h a.high 1 (omega arith) (high_one a p) in
    let root = root_of_is a.low f defined.0 in
    let least = (ceiling_root_is a.high f (omega (arith, ints, defined.0))).least in
    let l = low.from_low in
    let u = high.to_high in
    let above = root.above in
    to_ends r (root_of_ends a f) e defined.1 (record {
      from_low = square_at_most r.low (root_of a.low f) low.low root.from_zero (omega (arith, ints));
      to_high = least r.high high.high (omega (arith, ints));
    })
