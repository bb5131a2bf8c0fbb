-- At which corners the least and the greatest quotient lie, by the signs of the ends.
use Rattle.std.proofs.Common.{◌≡◌, ◌⊎◌, ◌∙◌, ◌/◌, ◌^◌, ◌<◌, ◌≤◌, ◌≤ℤ◌, ◌<ℤ◌, ◌*ℤ◌, ℕ, ℤ, zero, suc, Bool, true, false, pos, negsuc, neg_ℤ, refl, ap, sym, arith, inl, inr, if◌then◌else◌}
use Rattle.std.specs.Prelude.{◌↔◌, IsTrue}
use Rattle.std.proofs.lemmas.Bool.{false≢true}
use Rattle.std.proofs.lemmas.Int.{by_lt_z, ints}
use Rattle.std.proofs.lemmas.Nat.{mul-le}
use Rattle.std.proofs.Math.Nat.{div-le_self, div-mul-le_self}
use Rattle.fixed_word.specs.Quotient.{floor_quotient}
use Rattle.fixed_interval.specs.Ends.{Bounds, Ends, ends_of, ceiling_over, floor_over, greatest_corner, least_corner, quotient_of}
use Rattle.fixed_interval.specs.inside.OffZero.{ExcludesZero}
use Rattle.fixed_interval.proofs.Lines.{times_le}
use Rattle.fixed_interval.proofs.Corners.{AtCorners, above_greatest_corner, below_least_corner, greatest_corner_above, least_corner_below}
use Rattle.fixed_interval.proofs.Rounded.{below_floor, ceiling_order, floor_below, floor_order}

-- ---- a divisor that is further from 0 brings a quotient nearer to it

less_often : (a d e : ℕ) → 0 < d → d ≤ e → a / e ≤ a / d
less_often a d e h l =
    let m = mul-le (a / e) d (a / e) e (omega arith) l in
    let u = div-mul-le_self a e in
    let k : (pos (a / e) *ℤ pos d) ≤ℤ pos a = omega (arith, ints) in
    let r = (below_floor (pos (a / e)) (pos a) d h).1 k in
    omega (arith, ints)

fall : (x : ℤ) (d e : ℕ) → 0 < d → d ≤ e → pos 0 ≤ℤ x → floor_quotient x e ≤ℤ floor_quotient x d
fall (pos a) d e h l k = let o = less_often a d e h l in omega (arith, ints)
fall (negsuc a) d e h l k = absurd (omega (arith, ints))

rise : (x : ℤ) (d e : ℕ) → 0 < d → d ≤ e → x ≤ℤ pos 0 → floor_quotient x d ≤ℤ floor_quotient x e
rise (pos zero) d e h l k = let o = div-le_self 0 d in omega (arith, ints)
rise (pos (suc a)) d e h l k = absurd (omega (arith, ints))
rise (negsuc a) d e h l k = let o = less_often a d e h l in omega (arith, ints)

-- y and w lie on one side of 0
OneSide : ℤ → ℤ → Type 0
OneSide y w = (pos 0 <ℤ y) ⊎ (w <ℤ pos 0)

-- how a rounded quotient of x by y moves with x, and with y
record Moves (q : ℤ → ℤ → ℤ) : Type 0 where
  from_zero : (x y w : ℤ) → y ≤ℤ w → OneSide y w → pos 0 ≤ℤ x → q x w ≤ℤ q x y
  to_zero : (x y w : ℤ) → y ≤ℤ w → OneSide y w → x ≤ℤ pos 0 → q x y ≤ℤ q x w
  above : (x z y : ℤ) → pos 0 <ℤ y → x ≤ℤ z → q x y ≤ℤ q z y
  below : (x z y : ℤ) → y <ℤ pos 0 → x ≤ℤ z → q z y ≤ℤ q x y

floor_from_zero : (x y w : ℤ) → y ≤ℤ w → OneSide y w → pos 0 ≤ℤ x → floor_over x w ≤ℤ floor_over x y
unfolding OneSide
floor_from_zero x (pos zero) w l (inl s) k = absurd (omega (arith, ints))
floor_from_zero x (pos (suc d)) (pos e) l o k = fall x (suc d) e (omega arith) (omega (arith, ints)) k
floor_from_zero x (pos d) (negsuc e) l o k = absurd (omega (arith, ints))
floor_from_zero x (pos zero) (pos e) l (inr s) k = absurd (omega (arith, ints))
floor_from_zero x (negsuc d) w l (inl s) k = absurd (omega (arith, ints))
floor_from_zero x (negsuc d) (pos e) l (inr s) k = absurd (omega (arith, ints))
floor_from_zero x (negsuc d) (negsuc e) l (inr s) k = rise (neg_ℤ x) (suc e) (suc d) (omega arith) (omega (arith, ints)) (omega (arith, ints))

floor_to_zero : (x y w : ℤ) → y ≤ℤ w → OneSide y w → x ≤ℤ pos 0 → floor_over x y ≤ℤ floor_over x w
unfolding OneSide
floor_to_zero x (pos zero) w l (inl s) k = absurd (omega (arith, ints))
floor_to_zero x (pos (suc d)) (pos e) l o k = rise x (suc d) e (omega arith) (omega (arith, ints)) k
floor_to_zero x (pos d) (negsuc e) l o k = absurd (omega (arith, ints))
floor_to_zero x (pos zero) (pos e) l (inr s) k = absurd (omega (arith, ints))
floor_to_zero x (negsuc d) w l (inl s) k = absurd (omega (arith, ints))
floor_to_zero x (negsuc d) (pos e) l (inr s) k = absurd (omega (arith, ints))
floor_to_zero x (negsuc d) (negsuc e) l (inr s) k = fall (neg_ℤ x) (suc e) (suc d) (omega arith) (omega (arith, ints)) (omega (arith, ints))

floor_moves : Moves floor_over
floor_moves = record {
  from_zero = floor_from_zero;
  to_zero = floor_to_zero;
  above = floor_order;
  below = λ x z y s l. let k = (floor_below (floor_over z y) z y s).0 (omega (arith, ints)) in (floor_below (floor_over z y) x y s).1 (omega (arith, ints));
}

ceiling_moves : Moves ceiling_over
ceiling_moves = record {
  from_zero = λ x y w l o k. let m = floor_moves.to_zero (neg_ℤ x) y w l o (omega (arith, ints)) in omega (arith, ints);
  to_zero = λ x y w l o k. let m = floor_moves.from_zero (neg_ℤ x) y w l o (omega (arith, ints)) in omega (arith, ints);
  above = ceiling_order;
  below = λ x z y s l. let m = floor_moves.below (neg_ℤ z) (neg_ℤ x) y s (omega (arith, ints)) in omega (arith, ints);
}

-- ---- the corner by the signs of the ends

-- a quotient that is at most each of the four is the least, and one that is at least each the greatest
is_least : (q : ℤ → ℤ → ℤ) (a b : Ends) (m : ℤ) → AtCorners a b (λ x y. m ≤ℤ q x y) → least_corner q a b ≤ℤ m → m ≡ least_corner q a b
is_least q a b m h l = let k = below_least_corner m q a b h in omega (arith, ints)

is_greatest : (q : ℤ → ℤ → ℤ) (a b : Ends) (m : ℤ) → AtCorners a b (λ x y. q x y ≤ℤ m) → m ≤ℤ greatest_corner q a b → m ≡ greatest_corner q a b
is_greatest q a b m h l = let k = above_greatest_corner m q a b h in omega (arith, ints)

-- s is whether the divisor lies below 0
record IsSide (s : Bool) (b : Ends) : Type 0 where
  order : b.low ≤ℤ b.high
  above : s ≡ false → pos 0 <ℤ b.low
  below : s ≡ true → b.high <ℤ pos 0

side_is : (s : Bool) (b : Ends) → b.low ≤ℤ b.high → ExcludesZero b → (IsTrue s ↔ (b.low <ℤ pos 0)) → IsSide s b
side_is s b o (inl some) w = record { order = o; above = λ _. some; below = λ t. let l = w.0 t in absurd (omega (arith, ints)) }
side_is s b o (inr some) w = record { order = o; above = λ t. absurd (false≢true (sym t ∙ w.1 (omega (arith, ints)))); below = λ _. some }

least_at : (q : ℤ → ℤ → ℤ) → Moves q → (a b : Ends) (s t : Bool) → a.low ≤ℤ a.high → IsSide s b → (IsTrue t ↔ ((if s then a.high else a.low) <ℤ pos 0))
    → q (if s then a.high else a.low) (if t then b.low else b.high) ≡ least_corner q a b
unfolding OneSide
least_at q m a b false true l d w =
    let c = least_corner_below q a b in
    let k = w.0 refl in
    let z : a.low ≤ℤ pos 0 = omega (arith, ints) in
    let o = d.above refl in
    let p : pos 0 <ℤ b.high = let e = d.order in omega (arith, ints) in
    let u = m.to_zero a.low b.low b.high d.order (inl o) z in
    let v = m.above a.low a.high b.low o l in
    let x = m.above a.low a.high b.high p l in
    is_least q a b (q a.low b.low) (record { low_low = omega (arith, ints); low_high = u; high_low = v; high_high = omega (arith, ints) }) c.low_low
least_at q m a b false false l d w =
    let c = least_corner_below q a b in
    let z : pos 0 ≤ℤ a.low = by_lt_z a.low (pos 0) (λ n. absurd (false≢true (w.1 n))) (λ n. n) in
    let o = d.above refl in
    let p : pos 0 <ℤ b.high = let e = d.order in omega (arith, ints) in
    let r : pos 0 ≤ℤ a.high = omega (arith, ints) in
    let u = m.from_zero a.low b.low b.high d.order (inl o) z in
    let v = m.above a.low a.high b.high p l in
    let x = m.from_zero a.high b.low b.high d.order (inl o) r in
    is_least q a b (q a.low b.high) (record { low_low = u; low_high = omega (arith, ints); high_low = omega (arith, ints); high_high = v }) c.low_high
least_at q m a b true true l d w =
    let c = least_corner_below q a b in
    let k = w.0 refl in
    let z : a.high ≤ℤ pos 0 = omega (arith, ints) in
    let o = d.below refl in
    let p : b.low <ℤ pos 0 = let e = d.order in omega (arith, ints) in
    let u = m.to_zero a.high b.low b.high d.order (inr o) z in
    let v = m.below a.low a.high b.low p l in
    let x = m.below a.low a.high b.high o l in
    is_least q a b (q a.high b.low) (record { low_low = v; low_high = omega (arith, ints); high_low = omega (arith, ints); high_high = u }) c.high_low
least_at q m a b true false l d w =
    let c = least_corner_below q a b in
    let z : pos 0 ≤ℤ a.high = by_lt_z a.high (pos 0) (λ n. absurd (false≢true (w.1 n))) (λ n. n) in
    let o = d.below refl in
    let p : b.low <ℤ pos 0 = let e = d.order in omega (arith, ints) in
    let u = m.from_zero a.high b.low b.high d.order (inr o) z in
    let v = m.below a.low a.high b.low p l in
    let x = m.below a.low a.high b.high o l in
    is_least q a b (q a.high b.high) (record { low_low = omega (arith, ints); low_high = x; high_low = u; high_high = omega (arith, ints) }) c.high_high

greatest_at : (q : ℤ → ℤ → ℤ) → Moves q → (a b : Ends) (s t : Bool) → a.low ≤ℤ a.high → IsSide s b → (IsTrue t ↔ ((if s then a.low else a.high) <ℤ pos 0))
    → q (if s then a.low else a.high) (if t then b.high else b.low) ≡ greatest_corner q a b
unfolding OneSide
greatest_at q m a b false true l d w =
    let c = greatest_corner_above q a b in
    let k = w.0 refl in
    let z : a.high ≤ℤ pos 0 = omega (arith, ints) in
    let r : a.low ≤ℤ pos 0 = omega (arith, ints) in
    let o = d.above refl in
    let p : pos 0 <ℤ b.high = let e = d.order in omega (arith, ints) in
    let u = m.to_zero a.high b.low b.high d.order (inl o) z in
    let v = m.above a.low a.high b.low o l in
    let x = m.above a.low a.high b.high p l in
    is_greatest q a b (q a.high b.high) (record { low_low = omega (arith, ints); low_high = x; high_low = u; high_high = omega (arith, ints) }) c.high_high
greatest_at q m a b false false l d w =
    let c = greatest_corner_above q a b in
    let z : pos 0 ≤ℤ a.high = by_lt_z a.high (pos 0) (λ n. absurd (false≢true (w.1 n))) (λ n. n) in
    let o = d.above refl in
    let p : pos 0 <ℤ b.high = let e = d.order in omega (arith, ints) in
    let u = m.from_zero a.high b.low b.high d.order (inl o) z in
    let v = m.above a.low a.high b.low o l in
    let x = m.above a.low a.high b.high p l in
    is_greatest q a b (q a.high b.low) (record { low_low = v; low_high = omega (arith, ints); high_low = omega (arith, ints); high_high = u }) c.high_low
greatest_at q m a b true true l d w =
    let c = greatest_corner_above q a b in
    let k = w.0 refl in
    let z : a.low ≤ℤ pos 0 = omega (arith, ints) in
    let o = d.below refl in
    let p : b.low <ℤ pos 0 = let e = d.order in omega (arith, ints) in
    let u = m.to_zero a.low b.low b.high d.order (inr o) z in
    let v = m.below a.low a.high b.low p l in
    let x = m.below a.low a.high b.high o l in
    is_greatest q a b (q a.low b.high) (record { low_low = u; low_high = omega (arith, ints); high_low = omega (arith, ints); high_high = x }) c.low_high
greatest_at q m a b true false l d w =
    let c = greatest_corner_above q a b in
    let z : pos 0 ≤ℤ a.low = by_lt_z a.low (pos 0) (λ n. absurd (false≢true (w.1 n))) (λ n. n) in
    let o = d.below refl in
    let p : b.low <ℤ pos 0 = let e = d.order in omega (arith, ints) in
    let r : pos 0 ≤ℤ a.high = omega (arith, ints) in
    let u = m.from_zero a.low b.low b.high d.order (inr o) z in
    let v = m.below a.low a.high b.low p l in
    let x = m.below a.low a.high b.high o l in
    is_greatest q a b (q a.low b.low) (record { low_low = omega (arith, ints); low_high = u; high_low = v; high_high = omega (arith, ints) }) c.low_low

-- ---- with the fraction

with_fraction : (q : ℤ → ℤ → ℤ) (f : ℕ) → Moves q → Moves (λ x y. q (x *ℤ pos (2 ^ f)) y)
with_fraction q f m = record {
  from_zero = λ x y w l o k. m.from_zero (x *ℤ pos (2 ^ f)) y w l o (let t = times_le (pos 0) x (2 ^ f) k in omega (arith, ints));
  to_zero = λ x y w l o k. m.to_zero (x *ℤ pos (2 ^ f)) y w l o (let t = times_le x (pos 0) (2 ^ f) k in omega (arith, ints));
  above = λ x z y s l. m.above (x *ℤ pos (2 ^ f)) (z *ℤ pos (2 ^ f)) y s (times_le x z (2 ^ f) l);
  below = λ x z y s l. m.below (x *ℤ pos (2 ^ f)) (z *ℤ pos (2 ^ f)) y s (times_le x z (2 ^ f) l);
}

least_quotient_at : (a b : Ends) (f : ℕ) (s t : Bool) → a.low ≤ℤ a.high → IsSide s b → (IsTrue t ↔ ((if s then a.high else a.low) <ℤ pos 0))
    → floor_over ((if s then a.high else a.low) *ℤ pos (2 ^ f)) (if t then b.low else b.high) ≡ (quotient_of a b f).low
least_quotient_at a b f s t l d w = least_at (λ x y. floor_over (x *ℤ pos (2 ^ f)) y) (with_fraction floor_over f floor_moves) a b s t l d w

greatest_quotient_at : (a b : Ends) (f : ℕ) (s t : Bool) → a.low ≤ℤ a.high → IsSide s b → (IsTrue t ↔ ((if s then a.low else a.high) <ℤ pos 0))
    → ceiling_over ((if s then a.low else a.high) *ℤ pos (2 ^ f)) (if t then b.high else b.low) ≡ (quotient_of a b f).high
greatest_quotient_at a b f s t l d w = greatest_at (λ x y. ceiling_over (x *ℤ pos (2 ^ f)) y) (with_fraction ceiling_over f ceiling_moves) a b s t l d w

-- the ends that are picked have the numbers that are
picked : {T : Type 0} (value : T → ℤ) (s : Bool) (x y : T) → value (if s then x else y) ≡ (if s then value x else value y)
picked value true x y = refl
picked value false x y = refl

-- of intervals, where x and y are the ends that are picked
pub least_picked : {T : Type 0} (value : T → ℤ) (a b : Bounds T) (f : ℕ) (s t : Bool) (x y : T) → value a.lo ≤ℤ value a.hi → value b.lo ≤ℤ value b.hi → ExcludesZero (ends_of value b)
    → (IsTrue s ↔ (value b.lo <ℤ pos 0)) → x ≡ (if s then a.hi else a.lo) → (IsTrue t ↔ (value x <ℤ pos 0)) → y ≡ (if t then b.lo else b.hi)
    → floor_over (value x *ℤ pos (2 ^ f)) (value y) ≡ (quotient_of (ends_of value a) (ends_of value b) f).low
least_picked value a b f s t x y l o d p u q v =
    let i = ap value u ∙ picked value s a.hi a.lo in
    let j = ap value v ∙ picked value t b.lo b.hi in
    rw (i, j) (least_quotient_at (ends_of value a) (ends_of value b) f s t l (side_is s (ends_of value b) o d p) (rw i at q))

pub greatest_picked : {T : Type 0} (value : T → ℤ) (a b : Bounds T) (f : ℕ) (s t : Bool) (x y : T) → value a.lo ≤ℤ value a.hi → value b.lo ≤ℤ value b.hi → ExcludesZero (ends_of value b)
    → (IsTrue s ↔ (value b.lo <ℤ pos 0)) → x ≡ (if s then a.lo else a.hi) → (IsTrue t ↔ (value x <ℤ pos 0)) → y ≡ (if t then b.hi else b.lo)
    → ceiling_over (value x *ℤ pos (2 ^ f)) (value y) ≡ (quotient_of (ends_of value a) (ends_of value b) f).high
greatest_picked value a b f s t x y l o d p u q v =
    let i = ap value u ∙ picked value s a.lo a.hi in
    let j = ap value v ∙ picked value t b.hi b.lo in
    rw (i, j) (greatest_quotient_at (ends_of value a) (ends_of value b) f s t l (side_is s (ends_of value b) o d p) (rw i at q))
