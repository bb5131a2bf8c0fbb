-- Points by quarters, and the sign of the second coordinate.
use Rattle.std.proofs.Common.{◌≡◌, ◌+◌, ◌-◌, ◌*◌, ◌^◌, ◌<◌, ◌≤◌, ◌<ℤ◌, ℕ, ℤ, zero, suc, Bool, true, false, pos, negsuc, neg_ℤ, refl, subst, sym, ap, ◌∙◌, arith}
use Rattle.std.specs.Prelude.{unsigned_abs, if◌then◌else◌}
use mir.Val.{bool_byte}
use Rattle.std.proofs.lemmas.Int.{ints}
use Rattle.std.proofs.Math.Nat.{pow-le-pow_right}
use Rattle.fixed_word.specs.Format.{with_sign}
use Rattle.fixed_turns.specs.Angles.{IsAngleOf, IsByQuarters, IsRestOf, IsTurned, IsUpperAngle, is_below}

-- ---- (v, y) by quarters, where v is x or, for the two last, minus x
pub ahead_of_none : (k : ℕ) (v : ℤ) (x y g m : ℕ) → v ≡ pos x → y ≤ x → IsRestOf k x y g m → IsByQuarters k v y g m
unfolding IsTurned
ahead_of_none k v x y g m e l h = record { q = 0; a = x; below = false; b = y; rest = m; quarters = omega arith; turned = (e, refl); octant = l; is_rest = h; is = omega (arith, ints) }

pub behind_one : (k : ℕ) (v : ℤ) (x y g m r : ℕ) → v ≡ pos x → x ≤ y → IsRestOf k y x g m → r + m ≡ 2 ^ g → IsByQuarters k v y g r
unfolding IsTurned
behind_one k v x y g m r e l h is = record { q = 1; a = y; below = true; b = x; rest = m; quarters = omega arith; turned = (refl, ap neg_ℤ e); octant = l; is_rest = h; is = omega (arith, ints) }

pub ahead_of_one : (k : ℕ) (v : ℤ) (x y g m r : ℕ) → v ≡ neg_ℤ (pos x) → x ≤ y → IsRestOf k y x g m → r ≡ 2 ^ g + m → IsByQuarters k v y g r
unfolding IsTurned
ahead_of_one k v x y g m r e l h is = record { q = 1; a = y; below = false; b = x; rest = m; quarters = omega arith; turned = (refl, omega (arith, ints)); octant = l; is_rest = h; is = omega (arith, ints) }

pub behind_two : (k : ℕ) (v : ℤ) (x y g m r : ℕ) → v ≡ neg_ℤ (pos x) → y ≤ x → IsRestOf k x y g m → r + m ≡ 2 * 2 ^ g → IsByQuarters k v y g r
unfolding IsTurned
behind_two k v x y g m r e l h is = record { q = 2; a = x; below = true; b = y; rest = m; quarters = omega arith; turned = (omega (arith, ints), refl); octant = l; is_rest = h; is = omega (arith, ints) }

pub quarter_small : (f : ℕ) → f ≤ 64 → 2 ^ (f - 2) ≤ 2 ^ 62
quarter_small f l =
    let two : 0 < 2 = omega arith in
    let few : f - 2 ≤ 62 = omega arith in
    pow-le-pow_right two few

-- ---- each fraction
pub no_angle : (k : ℕ) (v : ℤ) (y f : ℕ) → f ≡ 0 → IsUpperAngle k v y f 0
unfolding IsUpperAngle
no_angle k v y f e = subst (λ (j : ℕ). IsUpperAngle k v y j 0) (sym e) refl

byte : (b : Bool) → bool_byte b ≡ (if b then 1 else 0)
byte true = refl
byte false = refl

pub half_turns : (k : ℕ) (v : ℤ) (y f m : ℕ) (below : Bool) → f ≡ 1 → below ≡ is_below v → m ≡ bool_byte below → IsUpperAngle k v y f m
unfolding IsUpperAngle
half_turns k v y f m below e is h = subst (λ (j : ℕ). IsUpperAngle k v y j m) (sym e) (subst (λ (c : Bool). m ≡ (if c then 1 else 0)) is (h ∙ byte below))

pub parts_of_turns : (k : ℕ) (v : ℤ) (y f m : ℕ) → 2 ≤ f → IsByQuarters k v y (f - 2) m → IsUpperAngle k v y f m
unfolding IsUpperAngle
parts_of_turns k v y zero m l h = absurd (omega arith)
parts_of_turns k v y (suc zero) m l h = absurd (omega arith)
parts_of_turns k v y (suc (suc g)) m l h = let e : suc (suc g) - 2 ≡ g = omega arith in subst (λ (j : ℕ). IsByQuarters k v y j m) e h

-- ---- signs
pub signed : (v : ℤ) (below : Bool) (m : ℕ) → (below ≡ true → v <ℤ pos 0) → (v <ℤ pos 0 → below ≡ true) → m ≡ unsigned_abs v → (v ≡ with_sign below m) × (below ≡ is_below v)
signed (pos n) true m sign back e = absurd (let h = sign refl in omega (arith, ints))
signed (pos n) false m sign back e = let d : m ≡ n = e in (ap pos (sym d), refl)
signed (negsuc n) true m sign back e = let d : m ≡ suc n = e in (ap (λ (j : ℕ). neg_ℤ (pos j)) (sym d), refl)
signed (negsuc n) false m sign back e = absurd (let h = back (omega (arith, ints)) in cc)

pub angle_by : (k : ℕ) (x y : ℤ) (f a m v : ℕ) (below : Bool) → IsUpperAngle k x a f m → a ≡ unsigned_abs y → below ≡ is_below y → v ≡ m → IsAngleOf k x y f (with_sign below v)
angle_by k x y f a m v below h abs sign is = record {
  magnitude = m;
  angle = subst (λ (j : ℕ). IsUpperAngle k x j f m) abs h;
  is = ap (λ (b : Bool). with_sign b v) sign ∙ ap (with_sign (is_below y)) is;
}
