-- Laws of powers of 2 that are rounded down up to a part of themselves.
use Rattle.std.proofs.Common.{◌≡◌, ◌+◌, ◌*◌, ◌^◌, ◌<◌, ◌≤◌, ◌≤ℤ◌, ◌<ℤ◌, ◌+ℤ◌, ℕ, ℤ, pos, negsuc, zero, suc, refl, ap, sym, subst, ◌∙◌, arith, inl, inr}
use Rattle.std.specs.Prelude.{unsigned_abs}
use Rattle.std.proofs.lemmas.Int.{ints}
use Rattle.std.proofs.lemmas.Bool.{cases_lt}
use Rattle.std.proofs.lemmas.Nat.{mul-pow, pow-add, pow_pos}
use Rattle.std.proofs.Math.Nat.{mul-le-mul_left, mul-le-mul_right, one-le-pow, pow-le-pow_left, pow-le-pow_right, pow-lt-pow_left, pow-suc}
use Rattle.fixed_elementary.specs.Log2.{IsLog2Of}
use Rattle.fixed_elementary.specs.Exp2.{IsExp2At, IsExp2Of}
use Rattle.fixed_elementary.proofs.Reading.{pow_times, root_lt}
use Rattle.fixed_elementary.proofs.LogLaws.{exponent_less}

at_exact : (room j f : ℕ) (x r : ℤ) → x ≡ pos (j * 2 ^ f) → IsExp2At room x f r → r ≡ pos (2 ^ j)
at_exact room j f x r e h =
    let k = subst (λ (y : ℤ). IsExp2At room y f r) e h in
    k.1 ∙ ap pos (k.2.exact j refl)

pub exp2_exact : (room j f : ℕ) (a r : ℤ) → a +ℤ pos (f * 2 ^ f) ≡ pos (j * 2 ^ f) → IsExp2Of room a f r → r ≡ pos (2 ^ j)
exp2_exact room j f a r e h = at_exact room j f (a +ℤ pos (f * 2 ^ f)) r e h

at_from_zero : (room f : ℕ) (x r : ℤ) → IsExp2At room x f r → pos 0 ≤ℤ r
at_from_zero room f (pos e) r h = let k = h.1 in omega (arith, ints)
at_from_zero room f (negsuc e) r h = omega (arith, ints)

pub exp2_from_zero : (room f : ℕ) (a r : ℤ) → IsExp2Of room a f r → pos 0 ≤ℤ r
exp2_from_zero room f a r h = at_from_zero room f (a +ℤ pos (f * 2 ^ f)) r h

root_less : (n m e q : ℕ) → n ^ q ≤ 2 ^ e → e < m * q → n < 2 ^ m
root_less n m e q h l = elim (cases_lt n (2 ^ m)) [
  | inl less ↦ less
  | inr fine ↦
      let up : (2 ^ m) ^ q ≤ n ^ q = pow-le-pow_left fine q in
      let t = pow_times 2 m q in
      let s : 2 ^ (m * q) < 2 ^ suc e = omega (arith, power_suc e, pow_pos e) in
      let x = exponent_less (m * q) (suc e) s in
      absurd (omega arith)
]
  where
    power_suc : (e : ℕ) → 2 ^ suc e ≡ 2 * 2 ^ e
    power_suc e = omega (arith, pow-suc 2 e)

at_below : (room m f : ℕ) (x r : ℤ) → x <ℤ pos (m * 2 ^ f) → IsExp2At room x f r → r <ℤ pos (2 ^ m)
at_below room m f (pos e) r l h =
    let k = h.1 in
    let none : 0 ≤ room = omega arith in
    let s = root_less h.0 m e (2 ^ f) (h.2.near 0 none).below (omega (arith, ints)) in
    omega (arith, ints)
at_below room m f (negsuc e) r l h = omega (arith, ints, pow_pos m)

pub exp2_below : (room m f : ℕ) (a r : ℤ) → (a +ℤ pos (f * 2 ^ f)) <ℤ pos (m * 2 ^ f) → IsExp2Of room a f r → r <ℤ pos (2 ^ m)
exp2_below room m f a r l h = at_below room m f (a +ℤ pos (f * 2 ^ f)) r l h

root_le : (n a e q : ℕ) → 0 < q → n ^ q ≤ 2 ^ e → 2 ^ e ≤ a ^ q → n ≤ a
root_le n a e q o h l = elim (cases_lt a n) [
  | inl less ↦ let up : a ^ q < n ^ q = pow-lt-pow_left less (omega arith) in absurd (omega arith)
  | inr fine ↦ fine
]

at_returned : (room f u m : ℕ) (x s : ℤ) → x ≡ pos u → 2 ^ u ≤ m ^ 2 ^ f → IsExp2At room x f s → s ≤ℤ pos m
at_returned room f u m x s e l h =
    let k = subst (λ (y : ℤ). IsExp2At room y f s) e h in
    let is = k.1 in
    let none : 0 ≤ room = omega arith in
    let t = root_le k.0 m u (2 ^ f) (pow_pos f) (k.2.near 0 none).below l in
    omega (arith, ints)

pub exp2_of_log2 : (log exp f : ℕ) (a r s : ℤ) → f ≤ log → pos 0 <ℤ a → IsLog2Of log a f r → IsExp2Of exp r f s → s ≤ℤ a
exp2_of_log2 log exp f a r s room o g h =
    let v = g.value in
    let u = g.units in
    let zero : f + 0 ≤ log = omega arith in
    let e : r +ℤ pos (f * 2 ^ f) ≡ pos u = omega (arith, ints) in
    let t = at_returned exp f u (unsigned_abs a) (r +ℤ pos (f * 2 ^ f)) s e (g.near 0 zero).below h in
    omega (arith, ints)

-- ---- two exponents in order

square_power : (x q : ℕ) → x ^ (2 * q) ≡ (x * x) ^ q
square_power x q =
    let e : 2 * q ≡ q + q = omega arith in
    ap (λ y. x ^ y) e ∙ pow-add x q q ∙ sym (mul-pow x x q)

-- if (1 + 1/q)^q is at least a / b, so is that of 2q
pub growth_twice : (a b q : ℕ) → a * q ^ q ≤ b * (q + 1) ^ q → a * (2 * q) ^ (2 * q) ≤ b * (2 * q + 1) ^ (2 * q)
growth_twice a b q h =
    let s : 4 * q * (q + 1) ≤ (2 * q + 1) * (2 * q + 1) = omega arith in
    let p : (4 * q) ^ q * (q + 1) ^ q ≤ ((2 * q + 1) * (2 * q + 1)) ^ q = rw (sym (mul-pow (4 * q) (q + 1) q)) (pow-le-pow_left s q) in
    let e : 2 * q * (2 * q) ≡ 4 * q * q = omega arith in
    let x : (2 * q) ^ (2 * q) ≡ (4 * q) ^ q * q ^ q = square_power (2 * q) q ∙ ap (λ y. y ^ q) e ∙ mul-pow (4 * q) q q in
    let y = square_power (2 * q + 1) q in
    let t = mul-le-mul_left ((4 * q) ^ q) h in
    let u = mul-le-mul_left b p in
    rw (x, y) (omega arith)

growth : (k : ℕ) → 2 * (2 ^ k) ^ 2 ^ k ≤ (2 ^ k + 1) ^ 2 ^ k
growth zero = omega arith
growth (suc k) =
    let e : 2 ^ suc k ≡ 2 * 2 ^ k = omega (arith, pow-suc 2 k) in
    let t = growth_twice 2 1 (2 ^ k) (omega (arith, growth k)) in
    rw e (omega arith)

-- the root of a factor that is at most (1 + 1/q)^m
pub grown : (a n q m c : ℕ) → 0 < q → a ^ m < n ^ m * c → c * q ^ m ≤ (q + 1) ^ m → a * q < n * (q + 1)
grown a n q m c o h g =
    let less : a ^ m + 1 ≤ n ^ m * c = omega arith in
    let x = mul-le-mul_right (q ^ m) less in
    let y = mul-le-mul_left (n ^ m) g in
    let some = one-le-pow m q o in
    root_lt (a * q) (n * (q + 1)) m (rw (mul-pow a q m, mul-pow n (q + 1) m) (omega arith))

-- q is 2^f and K is 2^k
near_power : (n m e d q K : ℕ) → 0 < K → 2 * K ^ K ≤ (K + 1) ^ K → e ≤ d → m < K → n ^ q ≤ 2 ^ e
    → 2 ^ (d * K) < (m + 1) ^ (q * K) * 2 ^ q → n ≤ m + 1
near_power n m e d q K o g l u h i =
    let up : 2 ^ e ≤ 2 ^ d = pow-le-pow_right {n = 2} (omega arith) {i = e} {j = d} l in
    let x : (n ^ q) ^ K ≤ (2 ^ d) ^ K = pow-le-pow_left (omega arith) K in
    let swap : (y : ℕ) → (y ^ K) ^ q ≡ y ^ (q * K) = λ y. pow_times y K q ∙ ap (λ w. y ^ w) (omega arith) in
    let y : (n ^ K) ^ q < ((m + 1) ^ K * 2) ^ q = rw (mul-pow ((m + 1) ^ K) 2 q, swap (m + 1), swap n) (omega (arith, pow_times n q K, pow_times 2 d K)) in
    let t = grown n (m + 1) K K 2 o (root_lt (n ^ K) ((m + 1) ^ K * 2) q y) g in
    elim (cases_lt (m + 1) n) [
      | inl less ↦ let z = mul-le-mul_right K less in absurd (omega arith)
      | inr fine ↦ fine
    ]

at_monotone : (room k f : ℕ) (x y r s : ℤ) → k ≤ room → x ≤ℤ y → IsExp2At room x f r → IsExp2At room y f s → s <ℤ pos (2 ^ k) → r ≤ℤ (s +ℤ pos 1)
at_monotone room k f (pos e) (pos d) r s l o g h u =
    let a = g.1 in
    let b = h.1 in
    let t = near_power g.0 h.0 e d (2 ^ f) (2 ^ k) (pow_pos k) (growth k) (omega (arith, ints)) (omega (arith, ints)) (g.2.near k l).below (h.2.near k l).above in
    omega (arith, ints)
at_monotone room k f (pos e) (negsuc d) r s l o g h u = absurd (omega (arith, ints))
at_monotone room k f (negsuc e) y r s l o g h u = let z = at_from_zero room f y s h in omega (arith, ints)

pub exp2_monotone : (room k f : ℕ) (a b r s : ℤ) → k ≤ room → a ≤ℤ b → IsExp2Of room a f r → IsExp2Of room b f s → s <ℤ pos (2 ^ k) → r ≤ℤ (s +ℤ pos 1)
exp2_monotone room k f a b r s l o = at_monotone room k f (a +ℤ pos (f * 2 ^ f)) (b +ℤ pos (f * 2 ^ f)) r s l (omega (arith, ints))
