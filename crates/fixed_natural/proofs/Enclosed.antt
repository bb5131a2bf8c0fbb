-- Logarithms to a base, from enclosed ones to the base 2.
use Rattle.std.proofs.Common.{◌≡◌, ◌+◌, ◌-◌, ◌*◌, ◌^◌, ◌<◌, ◌≤◌, ℕ, pos, refl, subst, ◌∙◌, inl, inr, arith}
use Rattle.std.specs.Prelude.{neg_ℤ}
use Rattle.std.proofs.lemmas.Int.{ints}
use Rattle.std.proofs.lemmas.Nat.{pow_pos, pow-add}
use Rattle.std.proofs.Math.Nat.{pow-le-pow_right, mul-le-mul_right}
use Rattle.fixed_word.specs.Format.{IsWidth}
use Rattle.fixed_natural.specs.Logs.{IsLogTo, log_room}
use Rattle.fixed_elementary.specs.Enclosed.{IsEnclosed}
use Rattle.fixed_natural.specs.inside.Scaling.{IsInverse, IsQuotient}
use Rattle.fixed_natural.proofs.Exponents.{power_above, power_below}
use Rattle.fixed_natural.proofs.Factors.{down_above, down_below, up_above, up_below}

-- ---- the logarithm, scaled

twice : (k : ℕ) → 2 ^ (k + 1) ≡ 2 * 2 ^ k
twice k = pow-add 2 k 1 ∙ omega arith

offset : (f k : ℕ) → f * 2 ^ (f + (k + 1)) ≡ f * 2 ^ f * (2 * 2 ^ k)
offset f k = let a = pow-add 2 f (k + 1) in let b = twice k in rw (a, b) (omega arith)

-- the spec's order of factors
in_order : (a f q j b x : ℕ) → 2 ^ x ≤ a ^ (2 ^ f * (q * j)) * 2 ^ b → 2 ^ x ≤ a ^ (2 ^ f * q * j) * 2 ^ b
in_order a f q j b x h = let e : 2 ^ f * (q * j) ≡ 2 ^ f * q * j = omega arith in subst (λ (n : ℕ). 2 ^ x ≤ a ^ n * 2 ^ b) e h

pub few : (h : ℕ) → h ≤ 97 → 64 * 2 ^ h ≤ 2 ^ 103
few h l = let p : 2 ^ h ≤ 2 ^ 97 = pow-le-pow_right {n = 2} (omega arith) l in omega arith

pub log_up : (a f k s c p q u : ℕ) → 0 < q → f + (k + 1) ≤ 97 → 4 * (c + 1) ≤ 3 * 2 ^ 128 → IsEnclosed a (f + (k + 1)) s → IsInverse c p q
    → f * 2 ^ (f + (k + 1)) ≤ s + 2 → IsQuotient ((s + 2 - f * 2 ^ (f + (k + 1))) * (c + 1)) (2 ^ 128 * 2 ^ (k + 1)) u → IsLogTo p q a f k (pos u)
log_up a f k s c p q u some small factor e i l h =
    let x = s + 2 - f * 2 ^ (f + (k + 1)) in
    let t = twice k in
    let y = offset f k in
    let sum : s + 2 ≡ x + f * 2 ^ f * (2 * 2 ^ k) = omega arith in
    let o : 0 < 2 ^ 128 = omega arith in
    let size = few (f + (k + 1)) small in
    let digits = e.digits in
    let all : x + 2 * (c + 1) ≤ 2 * 2 ^ 128 = omega arith in
    let low : u * (2 ^ 128 * (2 * 2 ^ k)) ≤ x * (c + 1) = subst (λ (n : ℕ). u * (2 ^ 128 * n) ≤ x * (c + 1)) t h.below in
    let high : x * (c + 1) < (u + 1) * (2 ^ 128 * (2 * 2 ^ k)) = subst (λ (n : ℕ). x * (c + 1) < (u + 1) * (2 ^ 128 * n)) t h.above in
    let first = up_below s (f * 2 ^ f) (2 ^ k) q p (2 ^ 128) c x u o sum low i.below i.above all in
    let second = up_above s (f * 2 ^ f) (2 ^ k) q p (2 ^ 128) c x u o sum high i.above in
    record {
      up = u;
      down = 0;
      value = omega (arith, ints);
      below = in_order a f q (2 ^ k) ((0 * 2 ^ k + 1) * p) (u * 2 ^ k * p + f * 2 ^ f * q * 2 ^ k) (power_below a f (k + 1) s (q * 2 ^ k) (u * 2 ^ k * p + f * 2 ^ f * q * 2 ^ k) ((0 * 2 ^ k + 1) * p) e.below (rw t (omega arith)));
      above = power_above a f (k + 1) (s + 2) q ((u + 1) * p + f * 2 ^ f * q) (0 * p) some e.above (rw t (omega arith));
    }

pub log_down : (a f k s c p q v : ℕ) → 0 < q → f ≤ 64 → f + (k + 1) ≤ 97 → 4 * (c + 1) ≤ 3 * 2 ^ 128 → IsEnclosed a (f + (k + 1)) s → IsInverse c p q
    → s + 2 < f * 2 ^ (f + (k + 1)) → IsQuotient ((f * 2 ^ (f + (k + 1)) - (s + 2)) * c) (2 ^ 128 * 2 ^ (k + 1)) v → IsLogTo p q a f k (neg_ℤ (pos (v + 1)))
log_down a f k s c p q v some few_places small factor e i l h =
    let x = f * 2 ^ (f + (k + 1)) - (s + 2) in
    let t = twice k in
    let y = offset f k in
    let sum : x + (s + 2) ≡ f * 2 ^ f * (2 * 2 ^ k) = omega arith in
    let o : 0 < 2 ^ 128 = omega arith in
    let size = few (f + (k + 1)) small in
    let less : f * 2 ^ (f + (k + 1)) ≤ 64 * 2 ^ (f + (k + 1)) = mul-le-mul_right (2 ^ (f + (k + 1))) few_places in
    let all : x + 2 * (c + 1) ≤ 2 * 2 ^ 128 = omega arith in
    let low : v * (2 ^ 128 * (2 * 2 ^ k)) ≤ x * c = subst (λ (n : ℕ). v * (2 ^ 128 * n) ≤ x * c) t h.below in
    let high : x * c < (v + 1) * (2 ^ 128 * (2 * 2 ^ k)) = subst (λ (n : ℕ). x * c < (v + 1) * (2 ^ 128 * n)) t h.above in
    let first = down_below s (f * 2 ^ f) (2 ^ k) q p (2 ^ 128) c x (v + 1) o sum high i.above all in
    let second = down_above s (f * 2 ^ f) (2 ^ k) q p (2 ^ 128) c x v o sum low i.below in
    record {
      up = 0;
      down = v + 1;
      value = omega (arith, ints);
      below = in_order a f q (2 ^ k) (((v + 1) * 2 ^ k + 1) * p) (0 * 2 ^ k * p + f * 2 ^ f * q * 2 ^ k) (power_below a f (k + 1) s (q * 2 ^ k) (0 * 2 ^ k * p + f * 2 ^ f * q * 2 ^ k) (((v + 1) * 2 ^ k + 1) * p) e.below (rw t (omega arith)));
      above = power_above a f (k + 1) (s + 2) q ((0 + 1) * p + f * 2 ^ f * q) ((v + 1) * p) some e.above (rw t (omega arith));
    }

-- ---- with a guard of k + 1 digits

pub few_places : (f n g : ℕ) → IsWidth n → f ≤ n → g ≡ log_room n + 1 → (f ≤ 64) × (f + g ≤ 97)
few_places f n g (inl e) l h = let s = subst (λ (m : ℕ). g ≡ log_room m + 1) e h in let t : g ≡ 25 = s in (omega arith, omega arith)
few_places f n g (inr (inl e)) l h = let s = subst (λ (m : ℕ). g ≡ log_room m + 1) e h in let t : g ≡ 25 = s in (omega arith, omega arith)
few_places f n g (inr (inr (inl e))) l h = let s = subst (λ (m : ℕ). g ≡ log_room m + 1) e h in let t : g ≡ 25 = s in (omega arith, omega arith)
few_places f n g (inr (inr (inr e))) l h = let s = subst (λ (m : ℕ). g ≡ log_room m + 1) e h in let t : g ≡ 33 = s in (omega arith, omega arith)

pub up_by : (a m f k g s c p q u : ℕ) → m ≡ a → g ≡ k + 1 → 0 < q → f + g ≤ 97 → 4 * (c + 1) ≤ 3 * 2 ^ 128 → IsEnclosed m (f + g) s → IsInverse c p q
    → f * 2 ^ (f + g) ≤ s + 2 → IsQuotient ((s + 2 - f * 2 ^ (f + g)) * (c + 1)) (2 ^ 128 * 2 ^ g) u → IsLogTo p q a f k (pos u)
up_by a m f k g s c p q u same e = rw (e, same) (log_up a f k s c p q u)

pub down_by : (a m f k g s c p q v : ℕ) → m ≡ a → g ≡ k + 1 → 0 < q → f ≤ 64 → f + g ≤ 97 → 4 * (c + 1) ≤ 3 * 2 ^ 128 → IsEnclosed m (f + g) s → IsInverse c p q
    → s + 2 < f * 2 ^ (f + g) → IsQuotient ((f * 2 ^ (f + g) - (s + 2)) * c) (2 ^ 128 * 2 ^ g) v → IsLogTo p q a f k (neg_ℤ (pos (v + 1)))
down_by a m f k g s c p q v same e = rw (e, same) (log_down a f k s c p q v)
