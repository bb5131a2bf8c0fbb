-- What holds of each angle of a point.
use Rattle.std.proofs.Common.{◌≡◌, ◌≢◌, ◌+◌, ◌-◌, ◌*◌, ◌^◌, ◌<◌, ◌≤◌, ◌+ℤ◌, ◌*ℤ◌, ◌≤ℤ◌, ℕ, ℤ, zero, suc, Bool, true, false, pos, negsuc, neg_ℤ, refl, subst, sym, ap, ◌∙◌, arith}
use Rattle.std.specs.Prelude.{unsigned_abs, if◌then◌else◌}
use Rattle.std.proofs.lemmas.Int.{ints}
use Rattle.std.proofs.lemmas.Nat.{pow-add, pow_pos}
use Rattle.std.proofs.Math.Nat.{pow-le-pow_right}
use Rattle.fixed_word.specs.Format.{InRange, with_sign}
use Rattle.fixed_turns.specs.Angles.{IsAngleOf, IsByQuarters, IsRestOf, IsTurned, IsUpperAngle, is_below}

-- ---- from -1/2 to 1/2
at_most_one : (b : Bool) (m : ℕ) → m ≡ (if b then 1 else 0) → m ≤ 1
at_most_one true m e = omega arith
at_most_one false m e = omega arith

-- a rest after half a turn is none, since y is not below 0
none_after : (x : ℤ) (y a b : ℕ) → IsTurned 2 x (pos y) a false b → b ≡ 0
unfolding IsTurned
none_after x y a b t = let e = t.1 in omega (arith, ints)

by_quarters_most : (q p rest m : ℕ) (below : Bool) → q ≤ 2 → 2 * rest ≤ p → (q ≡ 2 → below ≡ false → rest ≡ 0) → pos m ≡ pos (q * p) +ℤ with_sign below rest → 2 * m ≤ 4 * p
by_quarters_most zero p rest m true few small last is = omega (arith, ints)
by_quarters_most zero p rest m false few small last is = omega (arith, ints)
by_quarters_most (suc zero) p rest m true few small last is = omega (arith, ints)
by_quarters_most (suc zero) p rest m false few small last is = omega (arith, ints)
by_quarters_most (suc (suc zero)) p rest m true few small last is = omega (arith, ints)
by_quarters_most (suc (suc zero)) p rest m false few small last is = let none = last refl refl in omega (arith, ints)
by_quarters_most (suc (suc (suc q))) p rest m below few small last is = absurd (omega arith)

none_by : (k : ℕ) (x : ℤ) (y g q a b rest : ℕ) (below : Bool) → IsTurned q x (pos y) a below b → IsRestOf k a b g rest → q ≡ 2 → below ≡ false → rest ≡ 0
none_by k x y g q a b rest below t h e d =
    h.axis (none_after x y a b (subst (λ (c : Bool). IsTurned 2 x (pos y) a c b) d (subst (λ (j : ℕ). IsTurned j x (pos y) a below b) e t)))

four : (g : ℕ) → 2 ^ suc (suc g) ≡ 4 * 2 ^ g
four g =
    let e : suc (suc g) ≡ g + 2 = omega arith in
    ap (λ (j : ℕ). 2 ^ j) e ∙ pow-add 2 g 2 ∙ omega arith

upper_most : (k : ℕ) (x : ℤ) (y f m : ℕ) → IsUpperAngle k x y f m → 2 * m ≤ 2 ^ f
unfolding IsUpperAngle
upper_most k x y zero m h = let e : m ≡ 0 = h in omega arith
upper_most k x y (suc zero) m h = let l = at_most_one (is_below x) m h in omega arith
upper_most k x y (suc (suc g)) m h =
    let t : IsByQuarters k x y g m = h in
    let l = by_quarters_most t.q (2 ^ g) t.rest m t.below t.quarters t.is_rest.small (none_by k x y g t.q t.a t.b t.rest t.below t.turned t.is_rest) t.is in
    omega (arith, four g)

sign_least : (b : Bool) (m p : ℕ) → 2 * m ≤ p → neg_ℤ (pos p) ≤ℤ (pos 2 *ℤ with_sign b m)
sign_least true m p l = omega (arith, ints)
sign_least false m p l = omega (arith, ints)

sign_most : (b : Bool) (m p : ℕ) → 2 * m ≤ p → (pos 2 *ℤ with_sign b m) ≤ℤ pos p
sign_most true m p l = omega (arith, ints)
sign_most false m p l = omega (arith, ints)

pub angle_least : (k f : ℕ) (x y r : ℤ) → IsAngleOf k x y f r → neg_ℤ (pos (2 ^ f)) ≤ℤ (pos 2 *ℤ r)
angle_least k f x y r h = subst (λ (z : ℤ). neg_ℤ (pos (2 ^ f)) ≤ℤ (pos 2 *ℤ z)) (sym h.is) (sign_least (is_below y) h.magnitude (2 ^ f) (upper_most k x (unsigned_abs y) f h.magnitude h.angle))

pub angle_most : (k f : ℕ) (x y r : ℤ) → IsAngleOf k x y f r → (pos 2 *ℤ r) ≤ℤ pos (2 ^ f)
angle_most k f x y r h = subst (λ (z : ℤ). (pos 2 *ℤ z) ≤ℤ pos (2 ^ f)) (sym h.is) (sign_most (is_below y) h.magnitude (2 ^ f) (upper_most k x (unsigned_abs y) f h.magnitude h.angle))

pub angle_fits : (k n f : ℕ) (x y r : ℤ) → f < n → IsAngleOf k x y f r → InRange true n r
angle_fits k n f x y r l h =
    let a = angle_least k f x y r h in
    let b = angle_most k f x y r h in
    let two : 0 < 2 = omega arith in
    let p : 2 ^ f ≤ 2 ^ (n - 1) = pow-le-pow_right two (omega arith) in
    let o = pow_pos (n - 1) in
    (omega (arith, ints), omega (arith, ints))

-- ---- minus
other : (y : ℤ) (m : ℕ) → y ≢ pos 0 → neg_ℤ (with_sign (is_below y) m) ≡ with_sign (is_below (neg_ℤ y)) m
other (pos zero) m some = absurd (some refl)
other (pos (suc n)) m some = refl
other (negsuc n) m some = omega (arith, ints)

same : (y : ℤ) → unsigned_abs (neg_ℤ y) ≡ unsigned_abs y
same (pos zero) = refl
same (pos (suc n)) = refl
same (negsuc n) = refl

pub angle_minus : (k f : ℕ) (x y r : ℤ) → y ≢ pos 0 → IsAngleOf k x y f r → IsAngleOf k x (neg_ℤ y) f (neg_ℤ r)
angle_minus k f x y r some h = record {
  magnitude = h.magnitude;
  angle = subst (λ (j : ℕ). IsUpperAngle k x j f h.magnitude) (sym (same y)) h.angle;
  is = ap neg_ℤ h.is ∙ other y h.magnitude some;
}
