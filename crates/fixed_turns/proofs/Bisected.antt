-- The search for an angle in radians.
use Rattle.std.proofs.Common.{◌≡◌, ◌≢◌, ◌+◌, ◌-◌, ◌*◌, ◌/◌, ◌%◌, ◌^◌, ◌<◌, ◌≤◌, ◌<ℤ◌, ◌≤ℤ◌, ◌+ℤ◌, ◌*ℤ◌, unsigned_abs, ℕ, ℤ, Bool, true, false, pos, negsuc, neg_ℤ, zero, suc, refl, subst, sym, ap, ◌∙◌, mul_assoc, pow-add, arith}
use Rattle.std.proofs.lemmas.Int.{ints}
use Rattle.std.proofs.lemmas.Nat.{div-add-mod', mod_below, pow_pos}
use Rattle.std.proofs.Math.Nat.{le_of_mul-le-mul_right, mod-eq_of_lt, mul-le-mul_left, mul-le-mul_right, pow-le-pow_right}
use Rattle.fixed_word.specs.Format.{InRange, with_sign}
use Rattle.fixed_turns.specs.Angles.{is_below}
use Rattle.fixed_turns.specs.RadianAngles.{IsLeftBy, IsRadianAngle, IsRight, IsRightBy, IsSide, IsSideWith, IsUpperRadians}
use Rattle.fixed_turns.specs.Radians.{IsReduced, parts}
use Rattle.fixed_turns.specs.Series.{Fraction, cosine_series, sine_series}
use Rattle.fixed_turns.specs.Sines.{pi}
use Rattle.fixed_turns.specs.inside.Rests.{IsBetween, rounded_pi}
use Rattle.fixed_turns.proofs.TurnLaws.{twice_negated}

-- ---- a direction between two units
finer : (f : ℕ) → f < 64 → 2 ^ (64 - f) ≡ 2 ^ (63 - f) * 2
finer f l =
    let e : 64 - f ≡ 63 - f + 1 = omega arith in
    ap (λ (j : ℕ). 2 ^ j) e ∙ pow-add 2 (63 - f) 1

pub shifted : (h f : ℕ) → f < 64 → h * 2 ^ (64 - f) ≤ 2 * 0x3a666000000000000 → 2 * (h * 2 ^ (63 - f) % 2 ^ 128) ≡ h * 2 ^ (64 - f)
shifted h f l most =
    let d : h * 2 ^ (64 - f) ≡ h * 2 ^ (63 - f) * 2 = ap (λ (j : ℕ). h * j) (finer f l) ∙ sym (mul_assoc h (2 ^ (63 - f)) 2) in
    let small : h * 2 ^ (63 - f) < 2 ^ 128 = omega (arith, d) in
    let m = mod-eq_of_lt small in
    omega (arith, d, m)

-- ---- past pi
pub past : (f : ℕ) → f ≤ 64 → pi * 2 ^ (f + 1) ≤ (2 * (rounded_pi / 2 ^ (126 - f) + 1) + 1) * 10 ^ 39
past f l =
    let d = 2 ^ (126 - f) in
    let o = pow_pos (126 - f) in
    let q = rounded_pi / d in
    let s = div-add-mod' rounded_pi d in
    let b = mod_below rounded_pi d o in
    let e : 126 - f + f ≡ 126 = omega arith in
    let t : d * 2 ^ f ≡ 2 ^ 126 = sym (pow-add 2 (126 - f) f) ∙ ap (λ (j : ℕ). 2 ^ j) e in
    let n : pi * 2 ^ 126 ≤ (rounded_pi + 1) * 10 ^ 39 = omega arith in
    let m : (rounded_pi + 1) * 10 ^ 39 ≤ (q + 1) * d * 10 ^ 39 = mul-le-mul_right {m = rounded_pi + 1} {n = (q + 1) * d} (10 ^ 39) (omega arith) in
    let g : pi * 2 ^ f * d ≡ pi * 2 ^ 126 = omega (arith, ap (λ (j : ℕ). pi * j) t) in
    let h : pi * 2 ^ f * d ≤ (q + 1) * 10 ^ 39 * d = omega (arith, g, n, m) in
    let r = le_of_mul-le-mul_right {m = pi * 2 ^ f} {n = (q + 1) * 10 ^ 39} h o in
    let w = pow-add 2 f 1 in
    let v : pi * 2 ^ (f + 1) ≡ 2 * (pi * 2 ^ f) = omega (arith, ap (λ (j : ℕ). pi * j) w) in
    omega (arith, v, r)

pub near : (f : ℕ) → f ≤ 64 → 2 * (rounded_pi / 2 ^ (126 - f) + 1) * 2 ^ (64 - f) ≤ 2 * 0x3a666000000000000 + 2 ^ (64 - f)
near f l =
    let d = 2 ^ (126 - f) in
    let k = 2 ^ (64 - f) in
    let q = rounded_pi / d in
    let s = div-add-mod' rounded_pi d in
    let e : 126 - f ≡ 64 - f + 62 = omega arith in
    let t : d ≡ k * 2 ^ 62 = ap (λ (j : ℕ). 2 ^ j) e ∙ pow-add 2 (64 - f) 62 in
    let u : q * d ≡ q * k * 2 ^ 62 = ap (λ (j : ℕ). q * j) t ∙ sym (mul_assoc q k (2 ^ 62)) in
    let c : 64 - f + f ≡ 64 = omega arith in
    let w : k * 2 ^ f ≡ 2 ^ 64 = sym (pow-add 2 (64 - f) f) ∙ ap (λ (j : ℕ). 2 ^ j) c in
    let o = pow_pos f in
    let x : k * 1 ≤ k * 2 ^ f = mul-le-mul_left k o in
    omega (arith, s, u, w, x)

-- ---- the search
pub record IsSearch (k : ℕ) (l : Bool) (x y f low high : ℕ) : Type 0 where
  pub ends : low ≤ high
  pub small : 2 * high * 2 ^ (64 - f) ≤ 2 * 0x3a666000000000000 + 2 ^ (64 - f)
  pub least : (v : ℤ) → v ≡ with_sign l x → l ≡ is_below v → (i : ℕ) → low ≡ i + 1 → IsSide (IsLeftBy k) v (pos y) (2 * i + 1) (f + 1)
  pub most : (v : ℤ) → v ≡ with_sign l x → l ≡ is_below v → (2 * high + 1) * 10 ^ 39 < pi * 2 ^ (f + 1) → IsSide (IsRightBy k) v (pos y) (2 * high + 1) (f + 1)

pub search_all : (k : ℕ) (l : Bool) (x y f high : ℕ) → pi * 2 ^ (f + 1) ≤ (2 * high + 1) * 10 ^ 39 → 2 * high * 2 ^ (64 - f) ≤ 2 * 0x3a666000000000000 + 2 ^ (64 - f) → IsSearch k l x y f 0 high
search_all k l x y f high far small = record {
  ends = omega arith;
  small = small;
  least = λ v e b i z. absurd (omega arith);
  most = λ v e b less. absurd (omega (arith, far, less));
}

pub unit_bound : (f u high : ℕ) → u < high → 2 * high * 2 ^ (64 - f) ≤ 2 * 0x3a666000000000000 + 2 ^ (64 - f) → (2 * u + 1) * 2 ^ (64 - f) ≤ 2 * 0x3a666000000000000
unit_bound f u high lt small =
    let m : (2 * u + 2) * 2 ^ (64 - f) ≤ 2 * high * 2 ^ (64 - f) = mul-le-mul_right {m = 2 * u + 2} {n = 2 * high} (2 ^ (64 - f)) (omega arith) in
    omega arith

units : (f : ℕ) → f ≤ 64 → 2 ^ (64 - f) * 2 ^ (f + 1) ≡ 2 ^ 65
units f l =
    let e : 64 - f + (f + 1) ≡ 65 = omega arith in
    sym (pow-add 2 (64 - f) (f + 1)) ∙ ap (λ (j : ℕ). 2 ^ j) e

-- what a test says of a direction d
abbrev pub Told : (ℕ → ℕ → Bool → ℤ → ℤ → Fraction → Fraction → Type 0) → ℕ → Bool → ℕ → ℕ → ℕ → Type 0
Told side k l x y d = (v : ℤ) (h g j : ℕ) → v ≡ with_sign l x → l ≡ is_below v → j * 2 ^ g ≡ 2 ^ 65 → 2 * d ≤ h * j + 1 → h * j ≤ 2 * d → IsSide (side k) v (pos y) h g

pub search_up : (k : ℕ) (l : Bool) (x y f low high u d : ℕ) → f ≤ 64 → IsSearch k l x y f low high → u < high → 2 * d ≤ (2 * u + 1) * 2 ^ (64 - f) + 1 → (2 * u + 1) * 2 ^ (64 - f) ≤ 2 * d → Told IsLeftBy k l x y d
    → IsSearch k l x y f (u + 1) high
search_up k l x y f low high u d few s lt least most told = record {
  ends = omega arith;
  small = s.small;
  least = λ v e b i z. let w : u ≡ i = omega arith in subst (λ (j : ℕ). IsSide (IsLeftBy k) v (pos y) (2 * j + 1) (f + 1)) w (told v (2 * u + 1) (f + 1) (2 ^ (64 - f)) e b (units f few) least most);
  most = s.most;
}

pub search_down : (k : ℕ) (l : Bool) (x y f low high u d : ℕ) → f ≤ 64 → IsSearch k l x y f low high → low ≤ u → u < high → 2 * d ≤ (2 * u + 1) * 2 ^ (64 - f) + 1 → (2 * u + 1) * 2 ^ (64 - f) ≤ 2 * d → Told IsRightBy k l x y d
    → IsSearch k l x y f low u
search_down k l x y f low high u d few s m lt least most told = record {
  ends = m;
  small = let b = unit_bound f u high lt s.small in omega arith;
  least = s.least;
  most = λ v e b _. told v (2 * u + 1) (f + 1) (2 ^ (64 - f)) e b (units f few) least most;
}

pub found : (k : ℕ) (l : Bool) (x y f low high : ℕ) (v : ℤ) → IsSearch k l x y f low high → high ≤ low → v ≡ with_sign l x → l ≡ is_below v → IsBetween k v (pos y) f low
found k l x y f low high v s le e b =
    let t = s.ends in
    let w : high ≡ low = omega arith in
    record { least = s.least v e b; most = subst (λ (j : ℕ). (2 * j + 1) * 10 ^ 39 < pi * 2 ^ (f + 1) → IsSide (IsRightBy k) v (pos y) (2 * j + 1) (f + 1)) w (s.most v e b) }

-- ---- on the axis
first_right : (k x f : ℕ) (p : ℕ) (v : ℤ) → v ≡ pos x → IsSideWith (IsRightBy k) p v (pos 0) 1 (f + 1)
unfolding IsRightBy
first_right k x f p v e =
    let o = pow_pos (f + 1) in
    let z : 0 * (p * 2 ^ (f + 1)) ≡ 0 = omega arith in
    record {
      q = 0;
      below = false;
      rest = 2 * 10 ^ 39;
      angle = record { is = ap (λ (n : ℕ). pos n +ℤ pos (2 * 10 ^ 39)) (sym z); quarters = omega arith; small = omega arith };
      holds = λ n m. right_there k x v (sine_series (parts (2 * 10 ^ 39) (f + 1)) (n + 10)) (cosine_series (parts (2 * 10 ^ 39) (f + 1)) (m + 10)) e;
    }
  where
    right_there : (k x : ℕ) (v : ℤ) (s c : Fraction) → v ≡ pos x → IsRight k false v (pos 0) s c
    right_there k x v s c e = subst (λ (w : ℤ). IsRight k false w (pos 0) s c) (sym e) (omega (arith, ints), none_least (2 ^ k) (c.num * s.den) (2 ^ k * (x * (s.num * c.den)) + (x + 0) * (s.den * c.den)))
      where
        none_least : (k n m : ℕ) → (pos k *ℤ (pos 0 *ℤ pos n)) ≤ℤ pos m
        none_least k n m = let z : k * (0 * n) ≡ 0 = omega arith in subst (λ (j : ℕ). pos j ≤ℤ pos m) (sym z) (omega (arith, ints))

pub on_axis : (k x y f : ℕ) (v : ℤ) → y ≡ 0 → v ≡ pos x → IsUpperRadians k v (pos y) f 0
on_axis k x y f v none e = record {
  axis = λ _ _. refl;
  least = λ i z. absurd (omega arith);
  most = λ _. subst (λ (j : ℕ). IsSide (IsRightBy k) v (pos j) 1 (f + 1)) (sym none) (record { low = first_right k x f pi v e; high = first_right k x f (pi + 1) v e });
}

pub off_axis : (k y f m : ℕ) (l : Bool) (v : ℤ) → (y ≡ 0 → l ≡ true) → l ≡ is_below v → IsBetween k v (pos y) f m → IsUpperRadians k v (pos y) f m
off_axis k y f m l v other b h = record { axis = λ z s. absurd (both v (other (same y z)) b s); least = h.least; most = h.most }
  where
    same : (y : ℕ) → pos y ≡ pos 0 → y ≡ 0
    same y e = omega (arith, ints)

    both : (v : ℤ) → l ≡ true → l ≡ is_below v → pos 0 <ℤ v → ⊥
    both (pos n) on b s = cc
    both (negsuc n) on b s = omega (arith, ints)

-- ---- below the axis
pub angle_by : (k : ℕ) (x y : ℤ) (f a m : ℕ) (b : Bool) → IsUpperRadians k x (pos a) f m → a ≡ unsigned_abs y → b ≡ is_below y → IsRadianAngle k x y f (with_sign b m)
angle_by k x y f a m b h size e = record {
  magnitude = m;
  angle = subst (λ (j : ℕ). IsUpperRadians k x (pos j) f m) size h;
  is = ap (λ (c : Bool). with_sign c m) e;
}

-- ---- laws
pub on_the_axis : (k f : ℕ) (x r : ℤ) → pos 0 <ℤ x → IsRadianAngle k x (pos 0) f r → r ≡ pos 0
on_the_axis k f x r some h = h.is ∙ ap pos (h.angle.axis refl some)

pub minus_angle : (k f : ℕ) (x y r : ℤ) → y ≢ pos 0 → IsRadianAngle k x y f r → IsRadianAngle k x (neg_ℤ y) f (neg_ℤ r)
minus_angle k f x (pos zero) r some h = absurd (some refl)
minus_angle k f x (pos (suc n)) r some h = record { magnitude = h.magnitude; angle = h.angle; is = ap neg_ℤ h.is }
minus_angle k f x (negsuc n) r some h = record { magnitude = h.magnitude; angle = h.angle; is = ap neg_ℤ h.is ∙ twice_negated (pos h.magnitude) }

-- ---- a direction of at most 2 quarters and a rest
few_quarters : (k q : ℕ) (below : Bool) (x y : ℤ) (s c : Fraction) → IsLeftBy k q below x y s c → q ≤ 2
unfolding IsLeftBy
few_quarters k zero below x y s c h = omega arith
few_quarters k (suc zero) below x y s c h = omega arith
few_quarters k (suc (suc zero)) below x y s c h = omega arith
few_quarters k (suc (suc (suc q))) below x y s c h = absurd h

at_most : (b : Bool) (h g rest : ℕ) → pos h ≡ pos g +ℤ with_sign b rest → h ≤ g + rest
at_most true h g rest e = omega (arith, ints, e)
at_most false h g rest e = omega (arith, ints, e)

reduced_most : (h f q rest : ℕ) (b : Bool) → q ≤ 2 → IsReduced pi (pos h) (f + 1) (pos 0) q b rest → h ≤ 9 * 2 ^ f
reduced_most h f q rest b few i =
    let p = pi * 2 ^ (f + 1) in
    let e : pos 4 *ℤ pos 0 +ℤ pos q ≡ pos q = omega (arith, ints) in
    let a = at_most b (2 * 10 ^ 39 * h) (q * p) rest (i.is ∙ ap (λ (z : ℤ). z *ℤ pos p +ℤ with_sign b rest) e) in
    let m = mul-le-mul_right {m = q} {n = 2} p few in
    let w = pow-add 2 f 1 in
    let small = i.small in
    omega arith

upper_most : (k f m : ℕ) (x y : ℤ) → IsUpperRadians k x y f m → m ≤ 5 * 2 ^ f
upper_most k f zero x y h = omega arith
upper_most k f (suc i) x y h =
    let s = (h.least i (omega arith)).low in
    let few = few_quarters k s.q s.below x y (sine_series (parts s.rest (f + 1)) 10) (cosine_series (parts s.rest (f + 1)) 10) (s.holds 0 0) in
    let most = reduced_most (2 * i + 1) f s.q s.rest s.below few s.angle in
    let o = pow_pos f in
    omega arith

pub angle_fits : (k n f : ℕ) (x y r : ℤ) → f + 3 < n → IsRadianAngle k x y f r → InRange true n r
angle_fits k n f x y r l h =
    let m = upper_most k f h.magnitude x (pos (unsigned_abs y)) h.angle in
    let p : 2 ^ (f + 3) ≤ 2 ^ (n - 1) = pow-le-pow_right {n = 2} (omega arith) {i = f + 3} {j = n - 1} (omega arith) in
    let e = pow-add 2 f 3 in
    let o = pow_pos f in
    subst (InRange true n) (sym h.is) (signed_range (is_below y) n h.magnitude (omega arith))
  where
    signed_range : (b : Bool) (n m : ℕ) → m < 2 ^ (n - 1) → InRange true n (with_sign b m)
    signed_range true n m lt = (omega (arith, ints), omega (arith, ints))
    signed_range false n m lt = (omega (arith, ints), omega (arith, ints))
