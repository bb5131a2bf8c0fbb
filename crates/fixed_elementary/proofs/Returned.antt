-- How near 2 to the power of a logarithm comes back to the number.
use Rattle.std.proofs.Common.{◌≡◌, ◌+◌, ◌*◌, ◌^◌, ◌<◌, ◌≤◌, ◌≤ℤ◌, ◌<ℤ◌, ◌+ℤ◌, ◌*ℤ◌, ℕ, ℤ, pos, negsuc, zero, suc, ap, sym, subst, ◌∙◌, arith}
use Rattle.std.specs.Prelude.{unsigned_abs}
use Rattle.std.proofs.lemmas.Int.{ints}
use Rattle.std.proofs.lemmas.Nat.{mul-pow, pow-add, pow_pos}
use Rattle.std.proofs.Math.Nat.{mul-le-mul_right, pow-le-pow_left, pow-lt-pow_left, pow-suc}
use Rattle.fixed_elementary.specs.Log2.{IsLog2Of}
use Rattle.fixed_elementary.specs.Exp2.{IsExp2At, IsExp2Of}
use Rattle.fixed_elementary.proofs.Reading.{pow_times, root_lt}
use Rattle.fixed_elementary.proofs.ExpLaws.{exp2_from_zero, growth_twice, grown}

-- ---- (1 + 1/q)^q is at least 9/4 if q is 2, 4, 8 and so on

growth_least : (f : ℕ) → 9 * (2 ^ suc f) ^ 2 ^ suc f ≤ 4 * (2 ^ suc f + 1) ^ 2 ^ suc f
growth_least zero = omega arith
growth_least (suc f) =
    let e : 2 ^ suc (suc f) ≡ 2 * 2 ^ suc f = omega (arith, pow-suc 2 (suc f)) in
    rw e (growth_twice 9 4 (2 ^ suc f) (growth_least f))

growth_many : (q : ℕ) → 9 * q ^ q ≤ 4 * (q + 1) ^ q → 2 ^ 18 * q ^ (q * 16) ≤ (q + 1) ^ (q * 16)
growth_many q h =
    let p : (9 * q ^ q) ^ 16 ≤ (4 * (q + 1) ^ q) ^ 16 = pow-le-pow_left h 16 in
    many (q ^ (q * 16)) ((q + 1) ^ (q * 16)) (rw (sym (pow_times q q 16), sym (pow_times (q + 1) q 16), sym (mul-pow 9 (q ^ q) 16), sym (mul-pow 4 ((q + 1) ^ q) 16)) p)
  where
    many : (x y : ℕ) → 9 ^ 16 * x ≤ 4 ^ 16 * y → 2 ^ 18 * x ≤ y
    many x y h = omega arith

-- ---- the bounds of a logarithm and of a power, composed

-- q is 2^f, K is 2^k and J is 2^j
compose : (a n u q K J : ℕ) → 0 < K → a ^ (q * K) < 2 ^ ((u + 1) * K + 1) → 2 ^ (u * J) < n ^ (q * J) * 2 ^ q
    → a ^ (q * K * J) < n ^ (q * K * J) * 2 ^ ((K + 1) * J + q * K)
compose a n u q K J o g h =
    let weak : a ^ (q * K) ≤ 2 ^ ((u + 1) * K + 1) = omega arith in
    let x : (a ^ (q * K)) ^ J ≤ (2 ^ ((u + 1) * K + 1)) ^ J = pow-le-pow_left weak J in
    let y : (2 ^ (u * J)) ^ K < (n ^ (q * J) * 2 ^ q) ^ K = pow-lt-pow_left h (omega arith) in
    let e : ((u + 1) * K + 1) * J ≡ u * J * K + (K + 1) * J = omega arith in
    let d : q * J * K ≡ q * K * J = omega arith in
    let a_is = pow_times a (q * K) J in
    let u_is : (2 ^ ((u + 1) * K + 1)) ^ J ≡ 2 ^ (u * J * K) * 2 ^ ((K + 1) * J) = pow_times 2 ((u + 1) * K + 1) J ∙ ap (λ z. 2 ^ z) e ∙ pow-add 2 (u * J * K) ((K + 1) * J) in
    let v_is = pow_times 2 (u * J) K in
    let n_is = pow_times n (q * J) K ∙ ap (λ z. n ^ z) d in
    let q_is = pow_times 2 q K in
    let m = mul-pow (n ^ (q * J)) (2 ^ q) K in
    let s : 2 ^ (u * J * K) + 1 ≤ n ^ (q * K * J) * 2 ^ (q * K) = rw (sym v_is, sym n_is, sym q_is, sym m) (omega arith) in
    let t = mul-le-mul_right (2 ^ ((K + 1) * J)) s in
    let c = pow-add 2 ((K + 1) * J) (q * K) in
    let some = pow_pos ((K + 1) * J) in
    rw c (omega arith)

at_powers : (room f k j a u : ℕ) (x s : ℤ) → j ≤ room → x ≡ pos u → a ^ (2 ^ f * 2 ^ k) < 2 ^ ((u + 1) * 2 ^ k + 1) → IsExp2At room x f s
    → a ^ (2 ^ f * 2 ^ k * 2 ^ j) < (unsigned_abs s + 1) ^ (2 ^ f * 2 ^ k * 2 ^ j) * 2 ^ ((2 ^ k + 1) * 2 ^ j + 2 ^ f * 2 ^ k)
at_powers room f k j a u x s l e g h =
    let t = subst (λ (y : ℤ). IsExp2At room y f s) e h in
    let is = t.1 in
    let same : unsigned_abs s ≡ t.0 = ap unsigned_abs is in
    rw same (compose a (t.0 + 1) u (2 ^ f) (2 ^ k) (2 ^ j) (pow_pos k) g (t.2.near j l).above)

pub exp2_of_log2_powers : (log exp f k j : ℕ) (a r s : ℤ) → f + k ≤ log → j ≤ exp → IsLog2Of log a f r → IsExp2Of exp r f s
    → unsigned_abs a ^ (2 ^ f * 2 ^ k * 2 ^ j) < (unsigned_abs s + 1) ^ (2 ^ f * 2 ^ k * 2 ^ j) * 2 ^ ((2 ^ k + 1) * 2 ^ j + 2 ^ f * 2 ^ k)
exp2_of_log2_powers log exp f k j a r s l m g h =
    let v = g.value in
    let u = g.units in
    let e : r +ℤ pos (f * 2 ^ f) ≡ pos u = omega (arith, ints) in
    at_powers exp f k j (unsigned_abs a) u (r +ℤ pos (f * 2 ^ f)) s m e (g.near k l).above h

-- ---- the roots are taken

near_root : (a n q J : ℕ) → 9 * q ^ q ≤ 4 * (q + 1) ^ q → 0 < q → J ≡ q * 16
    → a ^ (q * 16 * J) < n ^ (q * 16 * J) * 2 ^ ((16 + 1) * J + q * 16) → a * q < n * (q + 1)
near_root a n q J g o e h =
    let m = q * 16 in
    let s : (16 + 1) * J + m ≡ 18 * J = omega arith in
    let down : (a ^ m) ^ J < (n ^ m * 2 ^ 18) ^ J = rw (mul-pow (n ^ m) (2 ^ 18) J, pow_times a m J, pow_times n m J, pow_times 2 18 J, sym s) h in
    let x = root_lt (a ^ m) (n ^ m * 2 ^ 18) J down in
    grown a n q m (2 ^ 18) o x (growth_many q g)

at_near : (f a n : ℕ) → 0 < f → a ^ (2 ^ f * 2 ^ 4 * 2 ^ (f + 4)) < n ^ (2 ^ f * 2 ^ 4 * 2 ^ (f + 4)) * 2 ^ ((2 ^ 4 + 1) * 2 ^ (f + 4) + 2 ^ f * 2 ^ 4)
    → a * 2 ^ f < n * (2 ^ f + 1)
at_near zero a n o h = absurd (omega arith)
at_near (suc f) a n o h = near_root a n (2 ^ suc f) (2 ^ (suc f + 4)) (growth_least f) (pow_pos (suc f)) (pow-add 2 (suc f) 4) h

in_whole : (a s : ℤ) (q : ℕ) → pos 0 ≤ℤ s → unsigned_abs a * q < (unsigned_abs s + 1) * (q + 1) → (a *ℤ pos q) <ℤ ((s +ℤ pos 1) *ℤ pos (q + 1))
in_whole (pos a) (pos s) q o h = omega (arith, ints)
in_whole (negsuc a) (pos s) q o h = omega (arith, ints)
in_whole a (negsuc s) q o h = absurd (omega (arith, ints))

pub exp2_of_log2_near : (log exp f : ℕ) (a r s : ℤ) → 0 < f → f + 4 ≤ log → f + 4 ≤ exp → IsLog2Of log a f r → IsExp2Of exp r f s
    → (a *ℤ pos (2 ^ f)) <ℤ ((s +ℤ pos 1) *ℤ pos (2 ^ f + 1))
exp2_of_log2_near log exp f a r s o l m g h =
    let t = at_near f (unsigned_abs a) (unsigned_abs s + 1) o (exp2_of_log2_powers log exp f 4 (f + 4) a r s l m g h) in
    in_whole a s (2 ^ f) (exp2_from_zero exp f r s h) t
