-- Powers of numbers above 0, from powers of 2 with enclosed exponents.
use Rattle.std.proofs.Common.{◌≡◌, ◌+◌, ◌-◌, ◌*◌, ◌^◌, ◌<◌, ◌≤◌, ◌<ℤ◌, ◌-ℤ◌, ℕ, ℤ, Option, Some, None, pos, negsuc, suc, zero, refl, ap, sym, subst, ◌∙◌, inl, inr, arith}
use Rattle.std.specs.Prelude.{min, unsigned_abs}
use Rattle.std.proofs.lemmas.Int.{ints}
use Rattle.std.proofs.lemmas.Bool.{cases_lt}
use Rattle.std.proofs.lemmas.Nat.{mul-pow, pow-add, pow_pos}
use Rattle.std.proofs.Math.Nat.{mul-le-mul_right, mul-le-mul_left, pow-le-pow_left, pow-le-pow_right, pow-zero, pow-suc}
use Rattle.fixed_elementary.specs.Exp2.{IsExp2Up}
use Rattle.fixed_elementary.proofs.Reading.{pow_times, root_le, root_lt}
use Rattle.fixed_natural.specs.Pows.{IsPowTo, pow_room}
use Rattle.fixed_natural.specs.inside.PowExponent.{IsPowExponent}
use Rattle.fixed_elementary.specs.Enclosed.{IsEnclosed}
use Rattle.fixed_natural.specs.inside.Scaling.{IsQuotient}
use Rattle.fixed_natural.proofs.Moving.{none_is, some_is}
use Rattle.fixed_natural.proofs.PowExponents.{down_least, down_most, down_none, near_above, near_below, up_least, up_most}
use Rattle.fixed_natural.proofs.Raising.{exp_above, exp_below}

-- ---- the exponent of 2

few : (f m : ℕ) → m < 2 ^ 64 → m ≤ 2 ^ f * 2 ^ 64
few f m l = let a : 1 * 2 ^ 64 ≤ 2 ^ f * 2 ^ 64 = mul-le-mul_right (2 ^ 64) (pow_pos f) in omega arith

units : (f : ℕ) → 0 < 2 ^ f * 2 ^ 64
units f = let a : 1 * 2 ^ 64 ≤ 2 ^ f * 2 ^ 64 = mul-le-mul_right (2 ^ 64) (pow_pos f) in omega arith

below_of : (x f t : ℕ) → IsQuotient x (2 ^ 128 * 2 ^ f) t → t * (2 ^ 64 * 2 ^ 64 * 2 ^ f) ≤ x
below_of x f t q = omega (arith, q.below)

above_of : (x f t : ℕ) → IsQuotient x (2 ^ 128 * 2 ^ f) t → x < (t + 1) * (2 ^ 64 * 2 ^ 64 * 2 ^ f)
above_of x f t q = omega (arith, q.above)

pub rising_up : (a f m s t : ℕ) → IsEnclosed a 121 s → m < 2 ^ 64 → f * 2 ^ 121 ≤ s + 2 → IsQuotient ((s + 2 - f * 2 ^ 121) * (m * 2 ^ 64)) (2 ^ 128 * 2 ^ f) t
    → IsPowExponent a m 0 f (Some (f * 2 ^ 57 + t + 2))
rising_up a f m s t e l h q =
    let x = s + 2 - f * 2 ^ 121 in
    let o : 0 < 2 ^ 64 = omega arith in
    let w : 2 ^ 121 ≡ 2 ^ 64 * 2 ^ 57 = refl in
    let sum : s + 2 ≡ x + f * 2 ^ 121 = omega arith in
    let most = up_most m f (2 ^ f) (2 ^ 64) (2 ^ 57) (2 ^ 121) (s + 2) x t o w sum (above_of _ f t q) in
    let least = up_least m f (2 ^ f) (2 ^ 64) (2 ^ 57) (2 ^ 121) (s + 2) x t o (few f m l) w sum (below_of _ f t q) in
    record {
      s = s;
      enclosed = e;
      least = λ z is. rw (sym (some_is is)) (omega arith);
      most = λ z is. rw (sym (some_is is)) (omega arith);
      none = λ is. absurd (none_is (sym is));
    }

pub falling_up : (a f m s t : ℕ) → IsEnclosed a 121 s → m < 2 ^ 64 → s < f * 2 ^ 121 → IsQuotient ((f * 2 ^ 121 - s) * (m * 2 ^ 64)) (2 ^ 128 * 2 ^ f) t
    → IsPowExponent a 0 m f (Some (f * 2 ^ 57 + t + 2))
falling_up a f m s t e l h q =
    let x = f * 2 ^ 121 - s in
    let near = below_of _ f t q in
    let far = above_of _ f t q in
    let p = 2 ^ f * 2 ^ 64 in
    let o : 0 < 2 ^ 64 = omega arith in
    let a1 : t * p ≤ x * m = near_below x m (2 ^ f) (2 ^ 64) t o near in
    let a2 : x * m < (t + 1) * p = near_above x m (2 ^ f) (2 ^ 64) t far in
    let b : m * (x + s) ≡ m * (f * 2 ^ 121) = let g : x + s ≡ f * 2 ^ 121 = omega arith in ap (λ k. m * k) g in
    let c = few f m l in
    record {
      s = s;
      enclosed = e;
      least = λ z is. rw (sym (some_is is)) (omega arith);
      most = λ z is. rw (sym (some_is is)) (omega arith);
      none = λ is. absurd (none_is (sym is));
    }

pub rising_down : (a f m s t : ℕ) (z : Option ℕ) → IsEnclosed a 121 s → m < 2 ^ 64 → s + 2 < f * 2 ^ 121 → IsQuotient ((f * 2 ^ 121 - (s + 2)) * (m * 2 ^ 64)) (2 ^ 128 * 2 ^ f) t
    → (f * 2 ^ 57 + 1 < t → z ≡ None) → (t ≤ f * 2 ^ 57 + 1 → z ≡ Some (f * 2 ^ 57 + 1 - t)) → IsPowExponent a m 0 f z
rising_down a f m s t z e l h q nothing something =
    let x = f * 2 ^ 121 - (s + 2) in
    let o : 0 < 2 ^ 64 = omega arith in
    let w : 2 ^ 121 ≡ 2 ^ 64 * 2 ^ 57 = refl in
    let sum : x + (s + 2) ≡ f * 2 ^ 121 = omega arith in
    elim (cases_lt (f * 2 ^ 57 + 1) t) [
      | inl more ↦
          let is = nothing more in
          let none = down_none m f (2 ^ f) (2 ^ 64) (2 ^ 57) (2 ^ 121) (s + 2) x t o (units f) w sum more (below_of _ f t q) in
          record {
            s = s;
            enclosed = e;
            least = λ y has. absurd (none_is (sym is ∙ has));
            most = λ y has. absurd (none_is (sym is ∙ has));
            none = λ has. omega arith;
          }
      | inr fine ↦
          let is = something fine in
          let y = f * 2 ^ 57 + 1 - t in
          let all : y + t ≡ f * 2 ^ 57 + 1 = omega arith in
          let most = down_most m f (2 ^ f) (2 ^ 64) (2 ^ 57) (2 ^ 121) (s + 2) x t y o w sum all (below_of _ f t q) in
          let least = down_least m f (2 ^ f) (2 ^ 64) (2 ^ 57) (2 ^ 121) (s + 2) x t y o (few f m l) w sum all (above_of _ f t q) in
          record {
            s = s;
            enclosed = e;
            least = λ k has. rw (some_is (sym has ∙ is)) (omega arith);
            most = λ k has. rw (some_is (sym has ∙ is)) (omega arith);
            none = λ has. absurd (none_is (sym has ∙ is));
          }
    ]

pub falling_down : (a f m s t : ℕ) (z : Option ℕ) → IsEnclosed a 121 s → m < 2 ^ 64 → f * 2 ^ 121 ≤ s → IsQuotient ((s - f * 2 ^ 121) * (m * 2 ^ 64)) (2 ^ 128 * 2 ^ f) t
    → (f * 2 ^ 57 + 1 < t → z ≡ None) → (t ≤ f * 2 ^ 57 + 1 → z ≡ Some (f * 2 ^ 57 + 1 - t)) → IsPowExponent a 0 m f z
falling_down a f m s t z e l h q nothing something =
    let x = s - f * 2 ^ 121 in
    let p = 2 ^ f * 2 ^ 64 in
    let o : 0 < 2 ^ 64 = omega arith in
    let some = units f in
    let a1 : t * p ≤ x * m = near_below x m (2 ^ f) (2 ^ 64) t o (below_of _ f t q) in
    let a2 : x * m < (t + 1) * p = near_above x m (2 ^ f) (2 ^ 64) t (above_of _ f t q) in
    let b : m * (x + f * 2 ^ 121) ≡ m * s = let g : x + f * 2 ^ 121 ≡ s = omega arith in ap (λ k. m * k) g in
    let c = few f m l in
    elim (cases_lt (f * 2 ^ 57 + 1) t) [
      | inl more ↦
          let is = nothing more in
          let i : (f * 2 ^ 57 + 2) * p ≤ t * p = mul-le-mul_right p (omega arith) in
          record {
            s = s;
            enclosed = e;
            least = λ y has. absurd (none_is (sym is ∙ has));
            most = λ y has. absurd (none_is (sym is ∙ has));
            none = λ has. omega arith;
          }
      | inr fine ↦
          let is = something fine in
          let y = f * 2 ^ 57 + 1 - t in
          let all : (y + t) * p ≡ (f * 2 ^ 57 + 1) * p = let g : y + t ≡ f * 2 ^ 57 + 1 = omega arith in ap (λ k. k * p) g in
          record {
            s = s;
            enclosed = e;
            least = λ k has. rw (some_is (sym has ∙ is)) (omega arith);
            most = λ k has. rw (some_is (sym has ∙ is)) (omega arith);
            none = λ has. absurd (none_is (sym has ∙ is));
          }
    ]

-- ---- powers, raised to 2^121

parts : (a up t h : ℕ) → (a ^ up * 2 ^ t) ^ h ≡ (a ^ h) ^ up * 2 ^ (t * h)
parts a up t h =
    let x = mul-pow (a ^ up) (2 ^ t) h in
    let y = pow_times a up h in
    let z = pow_times a h up in
    let s : up * h ≡ h * up = omega arith in
    let w = pow_times 2 t h in
    x ∙ ap (λ k. k * (2 ^ t) ^ h) (y ∙ ap (λ k. a ^ k) s ∙ sym z) ∙ ap (λ k. (a ^ h) ^ up * k) w

parts_most : (a up t h s : ℕ) → a ^ h ≤ 2 ^ s → (a ^ up * 2 ^ t) ^ h ≤ 2 ^ (s * up + t * h)
parts_most a up t h s l =
    let x = parts a up t h in
    let y : (a ^ h) ^ up ≤ (2 ^ s) ^ up = pow-le-pow_left l up in
    let z = pow_times 2 s up in
    let w = pow-add 2 (s * up) (t * h) in
    let v : (a ^ h) ^ up * 2 ^ (t * h) ≤ (2 ^ s) ^ up * 2 ^ (t * h) = mul-le-mul_right (2 ^ (t * h)) y in
    let u : (2 ^ s) ^ up * 2 ^ (t * h) ≡ 2 ^ (s * up) * 2 ^ (t * h) = ap (λ k. k * 2 ^ (t * h)) z in
    rw (x, w) (omega arith)

parts_least : (a up t h s : ℕ) → 2 ^ s ≤ a ^ h → 2 ^ (s * up + t * h) ≤ (a ^ up * 2 ^ t) ^ h
parts_least a up t h s l =
    let x = parts a up t h in
    let y : (2 ^ s) ^ up ≤ (a ^ h) ^ up = pow-le-pow_left l up in
    let z = pow_times 2 s up in
    let w = pow-add 2 (s * up) (t * h) in
    let v : (2 ^ s) ^ up * 2 ^ (t * h) ≤ (a ^ h) ^ up * 2 ^ (t * h) = mul-le-mul_right (2 ^ (t * h)) y in
    let u : (2 ^ s) ^ up * 2 ^ (t * h) ≡ 2 ^ (s * up) * 2 ^ (t * h) = ap (λ k. k * 2 ^ (t * h)) z in
    rw (x, w) (omega arith)

-- A and B are the power's numerator and denominator, h is 2^121, and n is 2^f
pow_above : (A B R n h x v : ℕ) → A ^ h ≤ 2 ^ x → 2 ^ v ≤ B ^ h → 2 ^ x < R ^ (n * h) * 2 ^ v → A < R ^ n * B
pow_above A B R n h x v l g e =
    let a = mul-pow (R ^ n) B h in
    let b = pow_times R n h in
    let c : R ^ (n * h) * 2 ^ v ≤ R ^ (n * h) * B ^ h = mul-le-mul_left (R ^ (n * h)) g in
    let d : (R ^ n * B) ^ h ≡ R ^ (n * h) * B ^ h = a ∙ ap (λ k. k * B ^ h) b in
    root_lt A (R ^ n * B) h (rw d (omega arith))

pow_below : (A B r n j h w y : ℕ) → 0 < h → B ^ h ≤ 2 ^ w → 2 ^ y ≤ A ^ h → r ^ (n * j * h) * 2 ^ (w * j) ≤ 2 ^ (y * j + n * h) → r ^ (n * j) * B ^ j ≤ A ^ j * 2 ^ n
pow_below A B r n j h w y o l g e =
    let swap : (X : ℕ) → (X ^ j) ^ h ≡ (X ^ h) ^ j = λ X. pow_times X j h ∙ (let s : j * h ≡ h * j = omega arith in ap (λ k. X ^ k) s) ∙ sym (pow_times X h j) in
    let a = mul-pow (r ^ (n * j)) (B ^ j) h ∙ ap (λ k. k * (B ^ j) ^ h) (pow_times r (n * j) h) ∙ ap (λ k. r ^ (n * j * h) * k) (swap B) in
    let b = mul-pow (A ^ j) (2 ^ n) h ∙ ap (λ k. k * (2 ^ n) ^ h) (swap A) ∙ ap (λ k. (A ^ h) ^ j * k) (pow_times 2 n h) in
    let c : (B ^ h) ^ j ≤ (2 ^ w) ^ j = pow-le-pow_left l j in
    let d : (2 ^ y) ^ j ≤ (A ^ h) ^ j = pow-le-pow_left g j in
    let i = pow_times 2 w j in
    let k = pow_times 2 y j in
    let m : r ^ (n * j * h) * (B ^ h) ^ j ≤ r ^ (n * j * h) * (2 ^ w) ^ j = mul-le-mul_left (r ^ (n * j * h)) c in
    let m2 : r ^ (n * j * h) * (2 ^ w) ^ j ≡ r ^ (n * j * h) * 2 ^ (w * j) = ap (λ z. r ^ (n * j * h) * z) i in
    let p : (2 ^ y) ^ j * 2 ^ (n * h) ≤ (A ^ h) ^ j * 2 ^ (n * h) = mul-le-mul_right (2 ^ (n * h)) d in
    let p2 : (2 ^ y) ^ j * 2 ^ (n * h) ≡ 2 ^ (y * j) * 2 ^ (n * h) = ap (λ z. z * 2 ^ (n * h)) k in
    let q = pow-add 2 (y * j) (n * h) in
    root_le (r ^ (n * j) * B ^ j) (A ^ j * 2 ^ n) h o (rw (a, b) (omega arith))

-- ---- the power

scale_most : (n d u h z x v : ℕ) → h ≡ d * u → x + n * d ≤ z * (n * d) + v → x * u + n * h ≤ z * (n * h) + v * u
scale_most n d u h z x v e l =
    let a : (x + n * d) * u ≤ (z * (n * d) + v) * u = mul-le-mul_right u l in
    rw e (omega arith)

scale_least : (n d u h j z w y : ℕ) → h ≡ d * u → u ≡ 4 * j → z * (n * d) + w ≤ y + 4 * (n * d) → z * (n * j * h) + w * j * u ≤ (y * j + n * h) * u
scale_least n d u h j z w y e g l =
    let a : (z * (n * d) + w) * (j * u) ≤ (y + 4 * (n * d)) * (j * u) = mul-le-mul_right (j * u) l in
    let b : n * d * u * u ≡ n * d * u * (4 * j) = ap (λ k. n * d * u * k) g in
    rw e (omega arith)

pow_some : (a up down f z r : ℕ) (b : ℤ) → b ≡ pos up -ℤ pos down → IsPowExponent a up down f (Some z) → IsExp2Up 117 z 57 r → IsPowTo a b f pow_room r
pow_some a up down f z r b v e is =
    let s = e.s in
    let h = 2 ^ 121 in
    let n = 2 ^ f in
    let low = e.enclosed.below in
    let high : a ^ h ≤ 2 ^ (s + 2) = omega (arith, e.enclosed.above) in
    let above_most = parts_most a up (f * down + f * 2 ^ f) h (s + 2) high in
    let above_least = parts_least a up (f * down + f * 2 ^ f) h s low in
    let below_most = parts_most a down (f * up) h (s + 2) high in
    let below_least = parts_least a down (f * up) h s low in
    let x = (s + 2) * up + (f * down + f * 2 ^ f) * h in
    let y = s * up + (f * down + f * 2 ^ f) * h in
    let w = (s + 2) * down + f * up * h in
    let t = s * down + f * up * h in
    let o : 0 < n * h = let g : 1 * h ≤ n * h = mul-le-mul_right h (pow_pos f) in omega arith in
    let fold : 2 ^ 121 ≡ 2 ^ 64 * 2 ^ 57 = refl in
    let four : 2 ^ 57 ≡ 4 * 2 ^ 55 = refl in
    let most = scale_most n (2 ^ 64) (2 ^ 57) h z x t fold (omega (arith, e.most z refl)) in
    let least = scale_least n (2 ^ 64) (2 ^ 57) h (2 ^ 55) z w y fold four (omega (arith, e.least z refl)) in
    let first = exp_above (r + 1) (n * h) 57 z t x o (is.near 57 (omega arith)).above most in
    let second = exp_below r (n * 2 ^ 55 * h) 57 z (w * 2 ^ 55) (y * 2 ^ 55 + n * h) (is.near 0 (omega arith)).below least in
    record {
      up = up;
      down = down;
      value = v;
      below = pow_below (a ^ up * 2 ^ (f * down + f * 2 ^ f)) (a ^ down * 2 ^ (f * up)) r n (2 ^ 55) h w y (omega arith) below_most above_least second;
      above = pow_above (a ^ up * 2 ^ (f * down + f * 2 ^ f)) (a ^ down * 2 ^ (f * up)) (r + 1) n h x t above_most below_least first;
    }

power_less : (i j : ℕ) → i < j → 2 ^ i < 2 ^ j
power_less i j l =
    let p : 2 ^ suc i ≤ 2 ^ j = pow-le-pow_right {n = 2} (omega arith) {i = suc i} {j = j} l in
    omega (arith, pow-suc 2 i, pow_pos i)

nothing_raised : (n x y : ℕ) → 0 < n → 0 ^ n * x ≤ y
nothing_raised (suc n) x y o =
    let e : 0 ^ suc n ≡ 0 = pow-suc 0 n ∙ omega arith in
    rw e (omega arith)
nothing_raised zero x y o = absurd (omega arith)

one_raised : (n : ℕ) → 1 ^ n ≡ 1
one_raised zero = pow-zero 1
one_raised (suc n) = pow-suc 1 n ∙ ap (λ (x : ℕ). x * 1) (one_raised n)

pow_none : (a up down f : ℕ) (b : ℤ) → b ≡ pos up -ℤ pos down → IsPowExponent a up down f None → IsPowTo a b f pow_room 0
pow_none a up down f b v e =
    let s = e.s in
    let h = 2 ^ 121 in
    let high : a ^ h ≤ 2 ^ (s + 2) = omega (arith, e.enclosed.above) in
    let above_most = parts_most a up (f * down + f * 2 ^ f) h (s + 2) high in
    let below_least = parts_least a down (f * up) h s e.enclosed.below in
    let x = (s + 2) * up + (f * down + f * 2 ^ f) * h in
    let t = s * down + f * up * h in
    let A = a ^ up * 2 ^ (f * down + f * 2 ^ f) in
    let B = a ^ down * 2 ^ (f * up) in
    let less : x < t = omega (arith, e.none refl) in
    let p = power_less x t less in
    let q : A ^ h < B ^ h = omega arith in
    let u = root_lt A B h q in
    let one = one_raised (2 ^ f) in
    let some : 0 < 2 ^ f * 2 ^ 55 = let g : 1 * 2 ^ 55 ≤ 2 ^ f * 2 ^ 55 = mul-le-mul_right (2 ^ 55) (pow_pos f) in omega arith in
    record {
      up = up;
      down = down;
      value = v;
      below = nothing_raised (2 ^ f * 2 ^ 55) (B ^ 2 ^ 55) (A ^ 2 ^ 55 * 2 ^ 2 ^ f) some;
      above = rw one (omega arith);
    }

-- m is the power in bits
pub pow_is : (a c up down f m : ℕ) (b : ℤ) (z : Option ℕ) → a ≡ c → b ≡ pos up -ℤ pos down → IsPowExponent a up down f z → (z ≡ None → m ≡ 0)
    → ((y : ℕ) → z ≡ Some y → (r : ℕ) × IsExp2Up 117 y 57 r × (m ≡ min r (2 ^ 64))) → (r : ℕ) × IsPowTo c b f pow_room r × (m ≡ min r (2 ^ 64))
pow_is a c up down f m b (Some z) same v e none some =
    let u = some z refl in
    (u.0, subst (λ (x : ℕ). IsPowTo x b f pow_room u.0) same (pow_some a up down f z u.0 b v e u.1), u.2)
pow_is a c up down f m b None same v e none some =
    (0, subst (λ (x : ℕ). IsPowTo x b f pow_room 0) same (pow_none a up down f b v e), none refl)

pub from_zero : (a : ℤ) (m : ℕ) → (a <ℤ pos 0 → ⊥) → m ≡ unsigned_abs a → a ≡ pos m -ℤ pos 0
from_zero (pos n) m s e = let k : m ≡ n = e in omega (arith, ints)
from_zero (negsuc n) m s e = absurd (s (omega (arith, ints)))

pub below_zero : (a : ℤ) (m : ℕ) → a <ℤ pos 0 → m ≡ unsigned_abs a → a ≡ pos 0 -ℤ pos m
below_zero (pos n) m l e = absurd (omega (arith, ints))
below_zero (negsuc n) m l e = let k : m ≡ suc n = e in omega (arith, ints)
