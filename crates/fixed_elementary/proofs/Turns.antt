-- The root of a quotient, one binary digit a turn.
use Rattle.std.proofs.Common.{◌≡◌, ◌+◌, ◌-◌, ◌*◌, ◌/◌, ◌%◌, ◌^◌, ◌<◌, ◌≤◌, ℕ, suc, refl, ap, sym, ◌∙◌, arith}
use Rattle.std.proofs.Math.Nat.{pow-suc, pow-zero, pow-le-pow_right, mul-le-mul_left}
use Rattle.std.proofs.lemmas.Nat.{pow-add, div-add-mod', mod_below}
use Rattle.fixed_elementary.specs.inside.RecipParts.{IsRecipRootOf, divided}

-- ---- one turn

-- where the digit is 1: q is the root, r its remainder and t the rest; d and e are digits of the quotient
pub one_more : (a q r t d u e v m : ℕ) → d * a + u ≡ 2 * t → e * a + v ≡ 2 * u → 4 * q + 1 ≤ 4 * r + 2 * d + e
    → m ≡ 4 * r + 2 * d + e - (4 * q + 1) → divided a (2 * q + 1) m v ≡ 4 * divided a q r t
one_more a q r t d u e v m g h l f =
    let s : (2 * q + 1) * (2 * q + 1) + m ≡ 4 * (q * q + r) + (2 * d + e) = omega arith in
    rw s (omega arith)

-- ---- the loop

pow_more : (k : ℕ) → 2 ^ (k + 1) ≡ 2 * 2 ^ k
pow_more k = let e : k + 1 ≡ suc k = omega arith in rw e (omega (arith, pow-suc 2 k))

pow_two_more : (k : ℕ) → 2 ^ (2 * (k + 1)) ≡ 4 * 2 ^ (2 * k)
pow_two_more k = let e : 2 * (k + 1) ≡ 2 * k + 1 + 1 = omega arith in rw e (omega (arith, pow_more (2 * k + 1), pow_more (2 * k)))

-- after i turns from the dividend b
pub record Found (a b q r t i : ℕ) : Type 0 where
  pub value : divided a q r t ≡ b * 2 ^ (2 * i)
  pub rest : t < a
  pub remainder : r ≤ 2 * q
  pub root : q + 1 ≤ 2 ^ 64 * 2 ^ i

pub begun : (a b q r t : ℕ) → divided a q r t ≡ b → t < a → r ≤ 2 * q → q < 2 ^ 64 → Found a b q r t 0
begun a b q r t e h l o =
    let p : 2 ^ (2 * 0) ≡ 1 = refl in
    record {
      value = rw p (omega arith);
      rest = h;
      remainder = l;
      root = omega (arith, pow-zero 2);
    }

pub turned : (a b q r t i x y z : ℕ) → Found a b q r t i → divided a x y z ≡ 4 * divided a q r t → z < a → y ≤ 2 * x → x ≤ 2 * q + 1
    → Found a b x y z (i + 1)
turned a b q r t i x y z f e h l o =
    let v = f.value in
    record {
      value = e ∙ ap (λ (n : ℕ). 4 * n) v ∙ times b (2 ^ (2 * i)) ∙ ap (λ (n : ℕ). b * n) (sym (pow_two_more i));
      rest = h;
      remainder = l;
      root = omega (arith, pow_more i, f.root);
    }
  where
    times : (b p : ℕ) → 4 * (b * p) ≡ b * (4 * p)
    times b p = omega arith

pub room : (a b q r t i k : ℕ) → i < k → k ≤ 33 → Found a b q r t i → q < 2 ^ 100
room a b q r t i k h l f =
    let few : i ≤ 32 = omega arith in
    let p : 2 ^ i ≤ 2 ^ 32 = pow-le-pow_right {n = 2} (omega arith) few in
    let q = f.root in
    omega arith

-- the power of two that all digits make
exponent_is : (e b : ℕ) → 126 ≤ e → b ≡ 2 ^ (126 + e % 2) → b * 2 ^ (2 * ((e - 126) / 2)) ≡ 2 ^ e
exponent_is e b l h =
    let d = div-add-mod' e 2 in
    let f = div-add-mod' (e - 126) 2 in
    let m = mod_below e 2 (omega arith) in
    let n = mod_below (e - 126) 2 (omega arith) in
    let s : 126 + e % 2 + 2 * ((e - 126) / 2) ≡ e = omega arith in
    rw h (sym (pow-add 2 (126 + e % 2) (2 * ((e - 126) / 2))) ∙ ap (λ (k : ℕ). 2 ^ k) s)

pub all_found : (a b q r t i e : ℕ) → i ≡ (e - 126) / 2 → 126 ≤ e → b ≡ 2 ^ (126 + e % 2) → Found a b q r t i → IsRecipRootOf (2 ^ e) a q
all_found a b q r t i e g l h f =
    let n : divided a q r t ≡ 2 ^ e = f.value ∙ ap (λ (k : ℕ). b * 2 ^ (2 * k)) g ∙ exponent_is e b l h in
    let s = f.rest in
    let m = mul-le-mul_left a f.remainder in
    (omega arith, omega arith)
