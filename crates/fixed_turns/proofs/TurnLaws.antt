-- Laws of sines and cosines.
use Rattle.std.proofs.Common.{◌≡◌, ◌+◌, ◌-◌, ◌*◌, ◌^◌, ◌<◌, ◌≤◌, ◌+ℤ◌, ◌-ℤ◌, ◌*ℤ◌, ◌≤ℤ◌, ℕ, ℤ, Bool, true, false, not, pos, negsuc, neg_ℤ, suc, zero, refl, subst, sym, ap, ◌∙◌, arith}
use Rattle.std.proofs.lemmas.Int.{ints}
use Rattle.std.proofs.lemmas.Nat.{pow_pos, pow-add}
use Rattle.std.proofs.Math.Nat.{mul-le-mul_right, pow-le-pow_right}
use Rattle.fixed_word.specs.Format.{InRange, with_sign}
use Rattle.fixed_word.proofs.Wraps.{neg-times, plus_times, suc_times}
use Rattle.fixed_turns.specs.Series.{Fraction}
use Rattle.fixed_turns.specs.Sines.{IsAngle, IsCosine, IsSine, IsSineAt, IsSineBy, pi, radians}
use Rattle.fixed_turns.proofs.Turning.{no_sign}

-- ---- from -1 to 1
negated : (r : ℤ) (n : ℕ) → (neg_ℤ (pos n) ≤ℤ neg_ℤ r) × (neg_ℤ r ≤ℤ pos n) → (neg_ℤ (pos n) ≤ℤ r) × (r ≤ℤ pos n)
negated r n h = let a = h.0 in let b = h.1 in (omega (arith, ints), omega (arith, ints))

signed : (b : Bool) (m n : ℕ) → m ≤ n → (neg_ℤ (pos n) ≤ℤ with_sign b m) × (with_sign b m ≤ℤ pos n)
signed true m n l = (omega (arith, ints), omega (arith, ints))
signed false m n l = (omega (arith, ints), omega (arith, ints))

pub within : (k q : ℕ) (below : Bool) (y : Fraction) (f : ℕ) (r : ℤ) → IsSineBy k q below y f r → (neg_ℤ (pos (2 ^ f)) ≤ℤ r) × (r ≤ℤ pos (2 ^ f))
unfolding IsSineBy
within k zero below y f r h = rw h.1 (signed below h.0 (2 ^ f) h.2.most)
within k (suc zero) below y f r h = rw h.1 (signed false h.0 (2 ^ f) h.2.most)
within k (suc (suc q)) below y f r h = negated r (2 ^ f) (within k q below y f (neg_ℤ r) h)

pub sine_least : (k f : ℕ) (a r : ℤ) → IsSine k a f r → neg_ℤ (pos (2 ^ f)) ≤ℤ r
sine_least k f a r h = (within k h.q h.below (radians pi h.rest f) f r h.sine.low).0

pub sine_most : (k f : ℕ) (a r : ℤ) → IsSine k a f r → r ≤ℤ pos (2 ^ f)
sine_most k f a r h = (within k h.q h.below (radians pi h.rest f) f r h.sine.low).1

pub in_range : (n f : ℕ) (r : ℤ) → f + 1 < n → neg_ℤ (pos (2 ^ f)) ≤ℤ r → r ≤ℤ pos (2 ^ f) → InRange true n r
in_range n f r l low high =
    let p : 2 ^ (f + 1) ≤ 2 ^ (n - 1) = pow-le-pow_right {n = 2} (omega arith) {i = f + 1} {j = n - 1} (omega arith) in
    let e = pow-add 2 f 1 in
    let o = pow_pos f in
    (omega (arith, ints), omega (arith, ints))

pub sine_fits : (k n f : ℕ) (a r : ℤ) → f + 1 < n → IsSine k a f r → InRange true n r
sine_fits k n f a r l h = in_range n f r l (sine_least k f a r h) (sine_most k f a r h)

pub cosine_fits : (k n f : ℕ) (a r : ℤ) → f + 1 < n → IsCosine k a f r → InRange true n r
cosine_fits k n f a r l h = let w = within k (h.q + 1) h.below (radians pi h.rest f) f r h.sine.low in in_range n f r l w.0 w.1

-- ---- a turn more
one_turn : (t : ℤ) (q p : ℕ) → (pos 4 *ℤ (t +ℤ pos 1) +ℤ pos q) *ℤ pos p ≡ (pos 4 *ℤ t +ℤ pos q) *ℤ pos p +ℤ pos (4 * p)
one_turn t q p =
    let e : pos 4 *ℤ (t +ℤ pos 1) +ℤ pos q ≡ (pos 4 *ℤ t +ℤ pos q) +ℤ pos 4 = omega (arith, ints) in
    ap (λ (z : ℤ). z *ℤ pos p) e ∙ plus_times (pos 4 *ℤ t +ℤ pos q) (pos 4) p

pub sine_turn : (k f : ℕ) (a r : ℤ) → IsSine k a f r → IsSine k (a +ℤ pos (2 ^ f)) f r
sine_turn k f a r h =
    let g = h.angle in
    let e = one_turn g.turns h.q (2 ^ f) in
    let i = g.is in
    record {
      q = h.q;
      below = h.below;
      rest = h.rest;
      angle = record { turns = g.turns +ℤ pos 1; is = omega (arith, ints); quarters = g.quarters; small = g.small };
      sine = h.sine;
    }

-- ---- the cosine
quarter_more : (t : ℤ) (q p : ℕ) → (pos 4 *ℤ t +ℤ pos (q + 1)) *ℤ pos p ≡ (pos 4 *ℤ t +ℤ pos q) *ℤ pos p +ℤ pos p
quarter_more t q p =
    let e : pos 4 *ℤ t +ℤ pos (q + 1) ≡ (pos 4 *ℤ t +ℤ pos q) +ℤ pos 1 = omega (arith, ints) in
    ap (λ (z : ℤ). z *ℤ pos p) e ∙ suc_times (pos 4 *ℤ t +ℤ pos q) p

pub twice_negated : (r : ℤ) → neg_ℤ (neg_ℤ r) ≡ r
twice_negated r = omega (arith, ints)

-- four quarters are none
no_quarter : (k : ℕ) (below : Bool) (y : Fraction) (f : ℕ) (r : ℤ) → IsSineBy k 4 below y f r → IsSineBy k 0 below y f r
unfolding IsSineBy
no_quarter k below y f r h = (h.0, sym (twice_negated r) ∙ h.1, h.2)

at_quarter : (k q : ℕ) (below : Bool) (x f : ℕ) (b r t : ℤ) → q ≤ 3 → pos 4 *ℤ b ≡ (pos 4 *ℤ t +ℤ pos (q + 1)) *ℤ pos (2 ^ f) +ℤ with_sign below x → 2 * x ≤ 2 ^ f → IsSineAt k (q + 1) below x f r → IsSine k b f r
at_quarter k (suc (suc (suc zero))) below x f b r t few is small h =
    let e = one_turn t 0 (2 ^ f) in
    let g = quarter_more t 3 (2 ^ f) in
    let i : (pos 4 *ℤ t +ℤ pos (3 + 1)) *ℤ pos (2 ^ f) ≡ (pos 4 *ℤ (t +ℤ pos 1) +ℤ pos 0) *ℤ pos (2 ^ f) = let j : pos 4 *ℤ t +ℤ pos (3 + 1) ≡ pos 4 *ℤ (t +ℤ pos 1) +ℤ pos 0 = omega (arith, ints) in ap (λ (z : ℤ). z *ℤ pos (2 ^ f)) j in
    record { q = 0; below = below; rest = x; angle = record { turns = t +ℤ pos 1; is = is ∙ ap (λ (z : ℤ). z +ℤ with_sign below x) i; quarters = omega arith; small = small }; sine = record { low = no_quarter k below (radians pi x f) f r h.low; high = no_quarter k below (radians (pi + 1) x f) f r h.high } }
at_quarter k (suc (suc (suc (suc q)))) below x f b r t few is small h = absurd (omega arith)
at_quarter k zero below x f b r t few is small h =
    record { q = 1; below = below; rest = x; angle = record { turns = t; is = is; quarters = omega arith; small = small }; sine = h }
at_quarter k (suc zero) below x f b r t few is small h =
    record { q = 2; below = below; rest = x; angle = record { turns = t; is = is; quarters = omega arith; small = small }; sine = h }
at_quarter k (suc (suc zero)) below x f b r t few is small h =
    record { q = 3; below = below; rest = x; angle = record { turns = t; is = is; quarters = omega arith; small = small }; sine = h }

pub as_sine : (k f : ℕ) (a b r : ℤ) → pos 4 *ℤ b ≡ pos 4 *ℤ a +ℤ pos (2 ^ f) → IsCosine k a f r → IsSine k b f r
as_sine k f a b r e h =
    let g = h.angle in
    let i = g.is in
    let j = quarter_more g.turns h.q (2 ^ f) in
    at_quarter k h.q h.below h.rest f b r g.turns g.quarters (omega (arith, ints)) g.small h.sine

-- ---- whole quarters
none_signed : (b : Bool) (x : ℕ) → with_sign b x ≡ pos 0 → x ≡ 0
none_signed true zero e = refl
none_signed true (suc x) e = absurd (omega (arith, ints))
none_signed false x e = omega (arith, ints)

no_multiple : (b : Bool) (n g x : ℕ) → x < g → g ≤ n → (with_sign b x ≡ pos n → ⊥) × (with_sign b x ≡ neg_ℤ (pos n) → ⊥)
no_multiple true n g x small l = (λ e. absurd (omega (arith, ints)), λ e. absurd (omega (arith, ints)))
no_multiple false n g x small l = (λ e. absurd (omega (arith, ints)), λ e. absurd (omega (arith, ints)))

pub whole : (s : ℤ) (g x : ℕ) (b : Bool) → x < g → s *ℤ pos g ≡ with_sign b x → (s ≡ pos 0) × (x ≡ 0)
whole (pos zero) g x b small e =
    let z : 0 * g ≡ 0 = omega arith in
    (refl, none_signed b x (sym e ∙ ap pos z))
whole (pos (suc n)) g x b small e =
    let m : 1 * g ≤ suc n * g = mul-le-mul_right g (omega arith) in
    absurd ((no_multiple b (suc n * g) g x small (omega arith)).0 (sym e))
whole (negsuc n) g x b small e =
    let m : 1 * g ≤ suc n * g = mul-le-mul_right g (omega arith) in
    absurd ((no_multiple b (suc n * g) g x small (omega arith)).1 (sym e ∙ neg-times (suc n) g))

below_all : (g x : ℕ) → 0 < g → 2 * x ≤ g → x < g
below_all g x o small = omega arith

pub left_over : (s c d : ℤ) (g : ℕ) (w : ℤ) → s +ℤ d ≡ c → c *ℤ pos g ≡ d *ℤ pos g +ℤ w → s *ℤ pos g ≡ w
left_over s c d g w sum e =
    let a = plus_times s d g in
    let b = ap (λ (z : ℤ). z *ℤ pos g) sum in
    omega (arith, ints)

quarters_only : (a t : ℤ) (f q c x : ℕ) (below : Bool) → q ≤ 3 → c ≤ 3 → pos 4 *ℤ a ≡ pos (c * 2 ^ f) → pos 4 *ℤ a ≡ (pos 4 *ℤ t +ℤ pos q) *ℤ pos (2 ^ f) +ℤ with_sign below x → 2 * x ≤ 2 ^ f
    → (q ≡ c) × (x ≡ 0)
quarters_only a t f q c x below few less e is small =
    let d = pos 4 *ℤ t +ℤ pos q in
    let s = pos c -ℤ d in
    let sum : s +ℤ d ≡ pos c = omega (arith, ints) in
    let w = whole s (2 ^ f) x below (below_all (2 ^ f) x (pow_pos f) small) (left_over s (pos c) d (2 ^ f) (with_sign below x) sum (sym e ∙ is)) in
    let none = w.0 in
    (omega (arith, ints), w.1)

exact_at : (k f c : ℕ) (a r : ℤ) → c ≤ 3 → pos 4 *ℤ a ≡ pos (c * 2 ^ f) → (h : IsSine k a f r) → IsSineAt k c h.below 0 f r
exact_at k f c a r less e h =
    let g = h.angle in
    let w = quarters_only a g.turns f h.q c h.rest h.below g.quarters less e g.is g.small in
    subst (λ (x : ℕ). IsSineAt k c h.below x f r) w.1 (subst (λ (q : ℕ). IsSineAt k q h.below h.rest f r) w.0 h.sine)

pub at_none : (k f : ℕ) (b : Bool) (y : Fraction) (r : ℤ) → y.num ≡ 0 → IsSineBy k 0 b y f r → r ≡ pos 0
unfolding IsSineBy
at_none k f b y r e h = h.1 ∙ no_sign b h.0 (h.2.exact e)

pub at_one : (k f : ℕ) (b : Bool) (y : Fraction) (r : ℤ) → y.num ≡ 0 → IsSineBy k 1 b y f r → r ≡ pos (2 ^ f)
unfolding IsSineBy
at_one k f b y r e h = h.1 ∙ ap pos (h.2.exact e)

at_two : (k f : ℕ) (b : Bool) (y : Fraction) (r : ℤ) → y.num ≡ 0 → IsSineBy k 2 b y f r → r ≡ pos 0
unfolding IsSineBy
at_two k f b y r none h = let e = at_none k f b y (neg_ℤ r) none h in omega (arith, ints)

at_three : (k f : ℕ) (b : Bool) (y : Fraction) (r : ℤ) → y.num ≡ 0 → IsSineBy k 3 b y f r → r ≡ neg_ℤ (pos (2 ^ f))
unfolding IsSineBy
at_three k f b y r none h = let e = at_one k f b y (neg_ℤ r) none h in omega (arith, ints)

-- a quarter is exact
no_rest : (f : ℕ) → (radians pi 0 f).num ≡ 0
no_rest f = refl

pub sine_of_zero : (k f : ℕ) (r : ℤ) → IsSine k (pos 0) f r → r ≡ pos 0
sine_of_zero k f r h =
    let z : 0 * 2 ^ f ≡ 0 = omega arith in
    let e : pos 4 *ℤ pos 0 ≡ pos (0 * 2 ^ f) = ap pos (sym z) in
    at_none k f h.below (radians pi 0 f) r (no_rest f) (exact_at k f 0 (pos 0) r (omega arith) e h).low

pub sine_of_quarter : (k f : ℕ) (a r : ℤ) → pos 4 *ℤ a ≡ pos (2 ^ f) → IsSine k a f r → r ≡ pos (2 ^ f)
sine_of_quarter k f a r e h =
    let z : 1 * 2 ^ f ≡ 2 ^ f = omega arith in
    at_one k f h.below (radians pi 0 f) r (no_rest f) (exact_at k f 1 a r (omega arith) (e ∙ ap pos (sym z)) h).low

pub sine_of_half : (k f : ℕ) (a r : ℤ) → pos 4 *ℤ a ≡ pos (2 * 2 ^ f) → IsSine k a f r → r ≡ pos 0
sine_of_half k f a r e h = at_two k f h.below (radians pi 0 f) r (no_rest f) (exact_at k f 2 a r (omega arith) e h).low

pub sine_of_three_quarters : (k f : ℕ) (a r : ℤ) → pos 4 *ℤ a ≡ pos (3 * 2 ^ f) → IsSine k a f r → r ≡ neg_ℤ (pos (2 ^ f))
sine_of_three_quarters k f a r e h = at_three k f h.below (radians pi 0 f) r (no_rest f) (exact_at k f 3 a r (omega arith) e h).low

-- ---- minus the angle
pub other_way : (b : Bool) (m : ℕ) → with_sign (not b) m ≡ neg_ℤ (with_sign b m)
other_way true zero = refl
other_way true (suc m) = refl
other_way false m = refl

pub negative_times : (z : ℤ) (p : ℕ) → neg_ℤ z *ℤ pos p ≡ neg_ℤ (z *ℤ pos p)
negative_times z p =
    let a = plus_times z (neg_ℤ z) p in
    let s : z +ℤ neg_ℤ z ≡ pos 0 = omega (arith, ints) in
    let n : 0 * p ≡ 0 = omega arith in
    let b = ap (λ (y : ℤ). y *ℤ pos p) s ∙ ap pos n in
    omega (arith, ints)

minus_angle : (a t u : ℤ) (f q p x : ℕ) (below : Bool) → pos 4 *ℤ u +ℤ pos p ≡ neg_ℤ (pos 4 *ℤ t +ℤ pos q) → p ≤ 3 → pos 4 *ℤ a ≡ (pos 4 *ℤ t +ℤ pos q) *ℤ pos (2 ^ f) +ℤ with_sign below x → 2 * x ≤ 2 ^ f
    → IsAngle (neg_ℤ a) f p (not below) x
minus_angle a t u f q p x below e few is small =
    let d = pos 4 *ℤ t +ℤ pos q in
    let g = ap (λ (y : ℤ). y *ℤ pos (2 ^ f)) e ∙ negative_times d (2 ^ f) in
    let s = other_way below x in
    record { turns = u; is = omega (arith, ints); quarters = few; small = small }

pub minus_zero : (k f : ℕ) (b : Bool) (y : Fraction) (r : ℤ) → IsSineBy k 0 b y f r → IsSineBy k 0 (not b) y f (neg_ℤ r)
unfolding IsSineBy
minus_zero k f b y r h = (h.0, ap neg_ℤ h.1 ∙ sym (other_way b h.0), h.2)

pub minus_one : (k f : ℕ) (b : Bool) (y : Fraction) (r : ℤ) → IsSineBy k 1 b y f r → IsSineBy k 3 (not b) y f (neg_ℤ r)
unfolding IsSineBy
minus_one k f b y r h = (h.0, twice_negated r ∙ h.1, h.2)

pub minus_two : (k f : ℕ) (b : Bool) (y : Fraction) (r : ℤ) → IsSineBy k 2 b y f r → IsSineBy k 2 (not b) y f (neg_ℤ r)
unfolding IsSineBy
minus_two k f b y r h = minus_zero k f b y (neg_ℤ r) h

pub minus_three : (k f : ℕ) (b : Bool) (y : Fraction) (r : ℤ) → IsSineBy k 3 b y f r → IsSineBy k 1 (not b) y f (neg_ℤ r)
unfolding IsSineBy
minus_three k f b y r h = h

minus_at : (k f q x : ℕ) (a r t : ℤ) (below : Bool) → q ≤ 3 → pos 4 *ℤ a ≡ (pos 4 *ℤ t +ℤ pos q) *ℤ pos (2 ^ f) +ℤ with_sign below x → 2 * x ≤ 2 ^ f → IsSineAt k q below x f r
    → IsSine k (neg_ℤ a) f (neg_ℤ r)
minus_at k f zero x a r t below few is small h =
    record {
      q = 0;
      below = not below;
      rest = x;
      angle = minus_angle a t (neg_ℤ t) f 0 0 x below (omega (arith, ints)) (omega arith) is small;
      sine = record { low = minus_zero k f below (radians pi x f) r h.low; high = minus_zero k f below (radians (pi + 1) x f) r h.high };
    }
minus_at k f (suc zero) x a r t below few is small h =
    record {
      q = 3;
      below = not below;
      rest = x;
      angle = minus_angle a t (neg_ℤ (t +ℤ pos 1)) f 1 3 x below (omega (arith, ints)) (omega arith) is small;
      sine = record { low = minus_one k f below (radians pi x f) r h.low; high = minus_one k f below (radians (pi + 1) x f) r h.high };
    }
minus_at k f (suc (suc zero)) x a r t below few is small h =
    record {
      q = 2;
      below = not below;
      rest = x;
      angle = minus_angle a t (neg_ℤ (t +ℤ pos 1)) f 2 2 x below (omega (arith, ints)) (omega arith) is small;
      sine = record { low = minus_two k f below (radians pi x f) r h.low; high = minus_two k f below (radians (pi + 1) x f) r h.high };
    }
minus_at k f (suc (suc (suc zero))) x a r t below few is small h =
    record {
      q = 1;
      below = not below;
      rest = x;
      angle = minus_angle a t (neg_ℤ (t +ℤ pos 1)) f 3 1 x below (omega (arith, ints)) (omega arith) is small;
      sine = record { low = minus_three k f below (radians pi x f) r h.low; high = minus_three k f below (radians (pi + 1) x f) r h.high };
    }
minus_at k f (suc (suc (suc (suc q)))) x a r t below few is small h = absurd (omega arith)

pub sine_minus : (k f : ℕ) (a r : ℤ) → IsSine k a f r → IsSine k (neg_ℤ a) f (neg_ℤ r)
sine_minus k f a r h = let g = h.angle in minus_at k f h.q h.rest a r g.turns h.below g.quarters g.is g.small h.sine
