-- Sines of angles in radians, and their laws.
use Rattle.std.proofs.Common.{◌≡◌, ◌+◌, ◌*◌, ◌^◌, ◌<◌, ◌≤◌, ◌+ℤ◌, ◌-ℤ◌, ◌*ℤ◌, ◌≤ℤ◌, ℕ, ℤ, Bool, true, not, pos, neg_ℤ, zero, suc, refl, subst, sym, ap, ◌∙◌, arith}
use Rattle.std.proofs.lemmas.Int.{ints}
use Rattle.std.proofs.lemmas.Nat.{pow_pos}
use Rattle.std.proofs.Math.IntN.{*ℤ_comm}
use Rattle.std.proofs.Math.Nat.{mul-le-mul_right}
use Rattle.fixed_word.specs.Format.{InRange, with_sign}
use Rattle.fixed_turns.specs.Series.{Fraction}
use Rattle.fixed_turns.specs.Sines.{IsSineBy, pi}
use Rattle.fixed_turns.specs.Radians.{IsRadianCosine, IsRadianSine, IsReduced, IsSineWith, parts}
use Rattle.fixed_turns.specs.inside.Rests.{IsBesidePi, IsReducedTo, IsSineNear}
use Rattle.fixed_turns.proofs.TurnLaws.{at_none, at_one, in_range, left_over, minus_one, minus_three, minus_two, minus_zero, negative_times, other_way, twice_negated, whole, within}

pub pi_low : IsBesidePi pi
pi_low = record { below = omega arith; above = omega arith }

pub pi_high : IsBesidePi (pi + 1)
pi_high = record { below = omega arith; above = omega arith }

with_pi : (p k c q s x f : ℕ) (a r : ℤ) (below : Bool) → s ≡ q + c → IsReducedTo p a f q below x → IsSineNear k s below x f r → IsSineWith p k c a f r
with_pi p k c q s x f a r below e i near = record {
  turns = i.turns;
  q = q;
  below = i.sign;
  rest = i.rest;
  angle = i.angle;
  sine = subst (λ (j : ℕ). IsSineBy k j i.sign (parts i.rest f) f r) e (near i.sign (parts i.rest f) i.under i.sure);
}

pub sine_of : (k q x f : ℕ) (a r : ℤ) (below : Bool) → ((p : ℕ) → IsBesidePi p → IsReducedTo p a f q below x) → IsSineNear k q below x f r → IsRadianSine k a f r
sine_of k q x f a r below i near =
    let e : q ≡ q + 0 = omega arith in
    record { low = with_pi pi k 0 q q x f a r below e (i pi pi_low) near; high = with_pi (pi + 1) k 0 q q x f a r below e (i (pi + 1) pi_high) near }

pub cosine_of : (k q x f : ℕ) (a r : ℤ) (below : Bool) → ((p : ℕ) → IsBesidePi p → IsReducedTo p a f q below x) → IsSineNear k (q + 1) below x f r → IsRadianCosine k a f r
cosine_of k q x f a r below i near = record {
  low = with_pi pi k 1 q (q + 1) x f a r below refl (i pi pi_low) near;
  high = with_pi (pi + 1) k 1 q (q + 1) x f a r below refl (i (pi + 1) pi_high) near;
}

-- ---- from -1 to 1
pub sine_within : (k f : ℕ) (a r : ℤ) → IsRadianSine k a f r → (neg_ℤ (pos (2 ^ f)) ≤ℤ r) × (r ≤ℤ pos (2 ^ f))
sine_within k f a r h = let s = h.low in within k (s.q + 0) s.below (parts s.rest f) f r s.sine

pub cosine_within : (k f : ℕ) (a r : ℤ) → IsRadianCosine k a f r → (neg_ℤ (pos (2 ^ f)) ≤ℤ r) × (r ≤ℤ pos (2 ^ f))
cosine_within k f a r h = let s = h.low in within k (s.q + 1) s.below (parts s.rest f) f r s.sine

pub sine_fits : (k n f : ℕ) (a r : ℤ) → f + 1 < n → IsRadianSine k a f r → InRange true n r
sine_fits k n f a r l h = let w = sine_within k f a r h in in_range n f r l w.0 w.1

pub cosine_fits : (k n f : ℕ) (a r : ℤ) → f + 1 < n → IsRadianCosine k a f r → InRange true n r
cosine_fits k n f a r l h = let w = cosine_within k f a r h in in_range n f r l w.0 w.1

-- ---- 0
short : (p f x : ℕ) → 2 * 10 ^ 39 < p → x ≤ 2 * 10 ^ 39 * 2 ^ f → x < p * 2 ^ f
short p f x l h =
    let m = mul-le-mul_right {m = 2 * 10 ^ 39 + 1} {n = p} (2 ^ f) l in
    let o = pow_pos f in
    omega arith

at_zero : (p f q x : ℕ) (t : ℤ) (b : Bool) → 2 * 10 ^ 39 < p → IsReduced p (pos 0) f t q b x → (q ≡ 0) × (x ≡ 0)
at_zero p f q x t b l h =
    let d = pos 4 *ℤ t +ℤ pos q in
    let s = pos 0 -ℤ d in
    let sum : s +ℤ d ≡ pos 0 = omega (arith, ints) in
    let z : 0 * (p * 2 ^ f) ≡ 2 * 10 ^ 39 * 0 = omega arith in
    let w = whole s (p * 2 ^ f) x b (short p f x l h.small) (left_over s (pos 0) d (p * 2 ^ f) (with_sign b x) sum (ap pos z ∙ h.is)) in
    let none = w.0 in
    let few = h.quarters in
    (omega (arith, ints), w.1)

pub sine_of_zero : (k f : ℕ) (r : ℤ) → IsRadianSine k (pos 0) f r → r ≡ pos 0
sine_of_zero k f r h =
    let s = h.low in
    let z = at_zero pi f s.q s.rest s.turns s.below (omega arith) s.angle in
    at_none k f s.below (parts s.rest f) r z.1 (subst (λ (q : ℕ). IsSineBy k (q + 0) s.below (parts s.rest f) f r) z.0 s.sine)

pub cosine_of_zero : (k f : ℕ) (r : ℤ) → IsRadianCosine k (pos 0) f r → r ≡ pos (2 ^ f)
cosine_of_zero k f r h =
    let s = h.low in
    let z = at_zero pi f s.q s.rest s.turns s.below (omega arith) s.angle in
    at_one k f s.below (parts s.rest f) r z.1 (subst (λ (q : ℕ). IsSineBy k (q + 1) s.below (parts s.rest f) f r) z.0 s.sine)

-- ---- minus the angle
minus_times : (c : ℕ) (a : ℤ) → pos c *ℤ neg_ℤ a ≡ neg_ℤ (pos c *ℤ a)
minus_times c a = *ℤ_comm (pos c) (neg_ℤ a) ∙ negative_times a c ∙ ap neg_ℤ (*ℤ_comm a (pos c))

minus_sum : (x y z : ℤ) → x ≡ y +ℤ z → neg_ℤ x ≡ neg_ℤ y +ℤ neg_ℤ z
minus_sum x y z e = omega (arith, ints)

minus_reduced : (p : ℕ) (a t u : ℤ) (f q j x : ℕ) (b : Bool) → pos 4 *ℤ u +ℤ pos j ≡ neg_ℤ (pos 4 *ℤ t +ℤ pos q) → j ≤ 3 → IsReduced p a f t q b x → IsReduced p (neg_ℤ a) f u j (not b) x
minus_reduced p a t u f q j x b e few h =
    let d = pos 4 *ℤ t +ℤ pos q in
    let g = p * 2 ^ f in
    record {
      is = minus_times (2 * 10 ^ 39) a ∙ minus_sum (pos (2 * 10 ^ 39) *ℤ a) (d *ℤ pos g) (with_sign b x) h.is
          ∙ ap (λ (z : ℤ). z +ℤ neg_ℤ (with_sign b x)) (sym (ap (λ (z : ℤ). z *ℤ pos g) e ∙ negative_times d g))
          ∙ ap (λ (z : ℤ). (pos 4 *ℤ u +ℤ pos j) *ℤ pos g +ℤ z) (sym (other_way b x));
      quarters = few;
      small = h.small;
    }

cosine_one : (k f : ℕ) (b c : Bool) (y : Fraction) (r : ℤ) → IsSineBy k 1 b y f r → IsSineBy k 1 c y f r
unfolding IsSineBy
cosine_one k f b c y r h = h

cosine_two : (k f : ℕ) (b : Bool) (y : Fraction) (r : ℤ) → IsSineBy k 2 b y f r → IsSineBy k 4 (not b) y f r
unfolding IsSineBy
cosine_two k f b y r h = (h.0, ap neg_ℤ h.1 ∙ sym (other_way b h.0), h.2)

cosine_three : (k f : ℕ) (b c : Bool) (y : Fraction) (r : ℤ) → IsSineBy k 3 b y f r → IsSineBy k 3 c y f r
unfolding IsSineBy
cosine_three k f b c y r h = h

cosine_four : (k f : ℕ) (b : Bool) (y : Fraction) (r : ℤ) → IsSineBy k 4 b y f r → IsSineBy k 2 (not b) y f r
unfolding IsSineBy
cosine_four k f b y r h = (h.0, sym (twice_negated (neg_ℤ r)) ∙ ap neg_ℤ h.1 ∙ sym (other_way b h.0), h.2)

minus_with : (p k f q : ℕ) (a r t : ℤ) (b : Bool) (x : ℕ) → IsReduced p a f t q b x → IsSineBy k (q + 0) b (parts x f) f r → IsSineWith p k 0 (neg_ℤ a) f (neg_ℤ r)
minus_with p k f zero a r t b x h s = record { turns = neg_ℤ t; q = 0; below = not b; rest = x; angle = minus_reduced p a t (neg_ℤ t) f 0 0 x b (omega (arith, ints)) (omega arith) h; sine = minus_zero k f b (parts x f) r s }
minus_with p k f (suc zero) a r t b x h s = record { turns = neg_ℤ (t +ℤ pos 1); q = 3; below = not b; rest = x; angle = minus_reduced p a t (neg_ℤ (t +ℤ pos 1)) f 1 3 x b (omega (arith, ints)) (omega arith) h; sine = minus_one k f b (parts x f) r s }
minus_with p k f (suc (suc zero)) a r t b x h s = record { turns = neg_ℤ (t +ℤ pos 1); q = 2; below = not b; rest = x; angle = minus_reduced p a t (neg_ℤ (t +ℤ pos 1)) f 2 2 x b (omega (arith, ints)) (omega arith) h; sine = minus_two k f b (parts x f) r s }
minus_with p k f (suc (suc (suc zero))) a r t b x h s = record { turns = neg_ℤ (t +ℤ pos 1); q = 1; below = not b; rest = x; angle = minus_reduced p a t (neg_ℤ (t +ℤ pos 1)) f 3 1 x b (omega (arith, ints)) (omega arith) h; sine = minus_three k f b (parts x f) r s }
minus_with p k f (suc (suc (suc (suc q)))) a r t b x h s = let few = h.quarters in absurd (omega arith)

even_with : (p k f q : ℕ) (a r t : ℤ) (b : Bool) (x : ℕ) → IsReduced p a f t q b x → IsSineBy k (q + 1) b (parts x f) f r → IsSineWith p k 1 (neg_ℤ a) f r
even_with p k f zero a r t b x h s = record { turns = neg_ℤ t; q = 0; below = not b; rest = x; angle = minus_reduced p a t (neg_ℤ t) f 0 0 x b (omega (arith, ints)) (omega arith) h; sine = cosine_one k f b (not b) (parts x f) r s }
even_with p k f (suc zero) a r t b x h s = record { turns = neg_ℤ (t +ℤ pos 1); q = 3; below = not b; rest = x; angle = minus_reduced p a t (neg_ℤ (t +ℤ pos 1)) f 1 3 x b (omega (arith, ints)) (omega arith) h; sine = cosine_two k f b (parts x f) r s }
even_with p k f (suc (suc zero)) a r t b x h s = record { turns = neg_ℤ (t +ℤ pos 1); q = 2; below = not b; rest = x; angle = minus_reduced p a t (neg_ℤ (t +ℤ pos 1)) f 2 2 x b (omega (arith, ints)) (omega arith) h; sine = cosine_three k f b (not b) (parts x f) r s }
even_with p k f (suc (suc (suc zero))) a r t b x h s = record { turns = neg_ℤ (t +ℤ pos 1); q = 1; below = not b; rest = x; angle = minus_reduced p a t (neg_ℤ (t +ℤ pos 1)) f 3 1 x b (omega (arith, ints)) (omega arith) h; sine = cosine_four k f b (parts x f) r s }
even_with p k f (suc (suc (suc (suc q)))) a r t b x h s = let few = h.quarters in absurd (omega arith)

pub sine_minus : (k f : ℕ) (a r : ℤ) → IsRadianSine k a f r → IsRadianSine k (neg_ℤ a) f (neg_ℤ r)
sine_minus k f a r h =
    let l = h.low in
    let u = h.high in
    record { low = minus_with pi k f l.q a r l.turns l.below l.rest l.angle l.sine; high = minus_with (pi + 1) k f u.q a r u.turns u.below u.rest u.angle u.sine }

pub cosine_even : (k f : ℕ) (a r : ℤ) → IsRadianCosine k a f r → IsRadianCosine k (neg_ℤ a) f r
cosine_even k f a r h =
    let l = h.low in
    let u = h.high in
    record { low = even_with pi k f l.q a r l.turns l.below l.rest l.angle l.sine; high = even_with (pi + 1) k f u.q a r u.turns u.below u.rest u.angle u.sine }
