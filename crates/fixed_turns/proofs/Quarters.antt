-- Angles: whole turns, quarters and a rest, in units of 2^-64 and of 2^-f.
use Rattle.std.proofs.Common.{◌≡◌, ◌+◌, ◌-◌, ◌*◌, ◌/◌, ◌%◌, ◌^◌, ◌<◌, ◌≤◌, ◌+ℤ◌, ◌-ℤ◌, ◌*ℤ◌, ◌<ℤ◌, ℕ, ℤ, Bool, true, false, pos, negsuc, neg_ℤ, suc, zero, refl, subst, sym, ap, ◌∙◌, arith}
use Rattle.std.specs.Prelude.{unsigned_abs}
use Rattle.std.proofs.lemmas.Int.{ints}
use Rattle.std.proofs.lemmas.Nat.{div-add-mod', mul-le, pow_pos}
use Rattle.std.proofs.Math.Nat.{le_of_mul-le-mul_right, mod-lt, mul_comm}
use Rattle.fixed_word.specs.Format.{Congruent, IsWidth, with_sign}
use Rattle.fixed_word.proofs.Wraps.{neg-times, plus_times, times_times}
use Rattle.fixed_turns.specs.Sines.{IsAngle}
use Rattle.fixed_turns.specs.inside.Rests.{IsParted}
use Rattle.fixed_turns.proofs.Sums.{powers}

-- ---- quarters and a rest
pub behind : (p : ℕ) → p < 2 ^ 64 → (p + 2 ^ 61) % 2 ^ 64 % 2 ^ 62 < 2 ^ 61 → IsParted p ((p + 2 ^ 61) % 2 ^ 64 / 2 ^ 62) true (4 * (2 ^ 61 - (p + 2 ^ 61) % 2 ^ 64 % 2 ^ 62))
behind p l h =
    let m = (p + 2 ^ 61) % 2 ^ 64 in
    let a = div-add-mod' (p + 2 ^ 61) (2 ^ 64) in
    let b = div-add-mod' m (2 ^ 62) in
    let o : 0 < 2 ^ 64 = omega arith in
    let c = mod-lt (p + 2 ^ 61) o in
    record {
      turns = pos ((p + 2 ^ 61) / 2 ^ 64);
      is = omega (arith, ints);
      quarter = omega arith;
      small = omega arith;
    }

pub ahead : (p : ℕ) → p < 2 ^ 64 → 2 ^ 61 ≤ (p + 2 ^ 61) % 2 ^ 64 % 2 ^ 62 → IsParted p ((p + 2 ^ 61) % 2 ^ 64 / 2 ^ 62) false (4 * ((p + 2 ^ 61) % 2 ^ 64 % 2 ^ 62 - 2 ^ 61))
ahead p l h =
    let m = (p + 2 ^ 61) % 2 ^ 64 in
    let a = div-add-mod' (p + 2 ^ 61) (2 ^ 64) in
    let b = div-add-mod' m (2 ^ 62) in
    let o : 0 < 2 ^ 64 = omega arith in
    let c = mod-lt (p + 2 ^ 61) o in
    let d : 0 < 2 ^ 62 = omega arith in
    let e = mod-lt m d in
    record {
      turns = pos ((p + 2 ^ 61) / 2 ^ 64);
      is = omega (arith, ints);
      quarter = omega arith;
      small = omega arith;
    }

-- ---- the part of a turn
pub moved_up : (a : ℤ) (m s r : ℕ) → (a <ℤ pos 0 → ⊥) → m ≡ unsigned_abs a → r ≡ m * s % 2 ^ 64 → Congruent (2 ^ 64) (a *ℤ pos s) (pos r)
moved_up (pos n) m s r sign e is =
    let k : m ≡ n = e in
    let b = div-add-mod' (m * s) (2 ^ 64) in
    let c : m * s ≡ n * s = ap (λ (j : ℕ). j * s) k in
    (pos (m * s / 2 ^ 64), omega (arith, ints))
moved_up (negsuc n) m s r sign e is = absurd (sign (omega (arith, ints)))

pub moved_down : (a : ℤ) (m s r w : ℕ) → a <ℤ pos 0 → m ≡ unsigned_abs a → r ≡ m * s % 2 ^ 64 → (w + r) % 2 ^ 64 ≡ 0 → Congruent (2 ^ 64) (a *ℤ pos s) (pos w)
moved_down (pos n) m s r w sign e is neg = absurd (omega (arith, ints))
moved_down (negsuc n) m s r w sign e is neg =
    let k : m ≡ suc n = e in
    let b = div-add-mod' (m * s) (2 ^ 64) in
    let c : m * s ≡ suc n * s = ap (λ (j : ℕ). j * s) k in
    let d = div-add-mod' (w + r) (2 ^ 64) in
    let f = neg-times (suc n) s in
    let sum = (m * s / 2 ^ 64) + (w + r) / 2 ^ 64 in
    (neg_ℤ (pos sum), omega (arith, ints))

-- ---- the rest in units of 2^-f: p is 2^(64 - f), and g is 2^f
rest_ahead : (z : ℤ) (p rest : ℕ) → 0 < p → z *ℤ pos p ≡ pos rest → (x : ℕ) × (z ≡ pos x) × (rest ≡ x * p)
rest_ahead (pos n) p rest o e = let k : n * p ≡ rest = omega (arith, ints, e) in (n, refl, sym k)
rest_ahead (negsuc n) p rest o e =
    let a = neg-times (suc n) p in
    let b = mul-le 1 1 (suc n) p (omega arith) o in
    absurd (omega (arith, ints))

rest_behind : (z : ℤ) (p rest : ℕ) → 0 < p → z *ℤ pos p ≡ neg_ℤ (pos rest) → (x : ℕ) × (z ≡ neg_ℤ (pos x)) × (rest ≡ x * p)
rest_behind (pos zero) p rest o e =
    let k : 0 * p ≡ 0 = omega arith in
    let none : rest ≡ 0 * p = omega (arith, ints, e, k) in
    (0, refl, none)
rest_behind (pos (suc n)) p rest o e =
    let b = mul-le 1 1 (suc n) p (omega arith) o in
    absurd (omega (arith, ints))
rest_behind (negsuc n) p rest o e =
    let a = neg-times (suc n) p in
    (suc n, refl, omega (arith, ints))

rest_of : (b : Bool) (z : ℤ) (p rest : ℕ) → 0 < p → z *ℤ pos p ≡ with_sign b rest → (x : ℕ) × (z ≡ with_sign b x) × (rest ≡ x * p)
rest_of true z p rest o e = rest_behind z p rest o e
rest_of false z p rest o e = rest_ahead z p rest o e

four_times : (a : ℤ) (p : ℕ) → (pos 4 *ℤ a) *ℤ pos p ≡ pos 4 *ℤ (a *ℤ pos p)
four_times a p =
    let e : pos 4 *ℤ a ≡ (a +ℤ a) +ℤ (a +ℤ a) = omega (arith, ints) in
    let b = plus_times a a p in
    let c = plus_times (a +ℤ a) (a +ℤ a) p in
    ap (λ (z : ℤ). z *ℤ pos p) e ∙ omega (arith, ints)

-- z is four times a, less its quarters
left : (a t k s z : ℤ) (p g u part q : ℕ) → g * p ≡ u → a *ℤ pos p ≡ pos part +ℤ k *ℤ pos u → pos (4 * part) ≡ (pos 4 *ℤ t +ℤ pos q) *ℤ pos u +ℤ s
    → pos 4 *ℤ a ≡ (pos 4 *ℤ (t +ℤ k) +ℤ pos q) *ℤ pos g +ℤ z → z *ℤ pos p ≡ s
left a t k s z p g u part q e moved parted is =
    let c = pos 4 *ℤ (t +ℤ k) +ℤ pos q in
    let b = ap (λ (y : ℤ). y *ℤ pos p) is in
    let d = plus_times (c *ℤ pos g) z p in
    let f = times_times c g p ∙ ap (λ (j : ℕ). c *ℤ pos j) e in
    let h : c ≡ (pos 4 *ℤ t +ℤ pos q) +ℤ pos 4 *ℤ k = omega (arith, ints) in
    let i = ap (λ (y : ℤ). y *ℤ pos u) h ∙ plus_times (pos 4 *ℤ t +ℤ pos q) (pos 4 *ℤ k) u in
    let j = four_times k u in
    let l = four_times a p in
    omega (arith, ints)

pub record IsRest (a : ℤ) (f q : ℕ) (below : Bool) (rest : ℕ) : Type 0 where
  pub x : ℕ
  pub is : rest ≡ x * 2 ^ (64 - f)
  pub angle : IsAngle a f q below x

angle_by : (a t k z : ℤ) (f part q rest : ℕ) (below : Bool) → f ≤ 64 → a *ℤ pos (2 ^ (64 - f)) ≡ pos part +ℤ k *ℤ pos (2 ^ 64)
    → pos (4 * part) ≡ (pos 4 *ℤ t +ℤ pos q) *ℤ pos (2 ^ 64) +ℤ with_sign below rest → q ≤ 3 → rest ≤ 2 ^ 63 → pos 4 *ℤ a ≡ (pos 4 *ℤ (t +ℤ k) +ℤ pos q) *ℤ pos (2 ^ f) +ℤ z → IsRest a f q below rest
angle_by a t k z f part q rest below l moved parted few small is =
    let e : 2 ^ f * 2 ^ (64 - f) ≡ 2 ^ 64 = mul_comm (2 ^ f) (2 ^ (64 - f)) ∙ powers f l in
    let o = pow_pos (64 - f) in
    let d = left a t k (with_sign below rest) z (2 ^ (64 - f)) (2 ^ f) (2 ^ 64) part q e moved parted is in
    let r = rest_of below z (2 ^ (64 - f)) rest o d in
    let b : 2 * r.0 * 2 ^ (64 - f) ≤ 2 ^ f * 2 ^ (64 - f) = omega (arith, r.2) in
    record {
      x = r.0;
      is = r.2;
      angle = record { turns = t +ℤ k; is = subst (λ (y : ℤ). pos 4 *ℤ a ≡ (pos 4 *ℤ (t +ℤ k) +ℤ pos q) *ℤ pos (2 ^ f) +ℤ y) r.1 is; quarters = few; small = le_of_mul-le-mul_right b o };
    }

difference : (x y : ℤ) → x ≡ y +ℤ (x -ℤ y)
difference x y = omega (arith, ints)

pub angle_of : (a : ℤ) (f part q rest : ℕ) (below : Bool) → f ≤ 64 → Congruent (2 ^ 64) (a *ℤ pos (2 ^ (64 - f))) (pos part) → IsParted part q below rest → IsRest a f q below rest
angle_of a f part q rest below l moved h =
    angle_by a h.turns moved.0 (pos 4 *ℤ a -ℤ (pos 4 *ℤ (h.turns +ℤ moved.0) +ℤ pos q) *ℤ pos (2 ^ f)) f part q rest below l moved.1 h.is h.quarter h.small
    (difference (pos 4 *ℤ a) ((pos 4 *ℤ (h.turns +ℤ moved.0) +ℤ pos q) *ℤ pos (2 ^ f)))

pub width_few : (n f : ℕ) → IsWidth n → f ≤ n → f ≤ 64
width_few n f w l = grind arith
