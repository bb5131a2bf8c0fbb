-- Quotients, and factorials with their reciprocals.
use Rattle.std.proofs.Common.{◌≡◌, ◌+◌, ◌-◌, ◌*◌, ◌/◌, ◌^◌, ◌<◌, ◌≤◌, ℕ, zero, suc, List, [], ◌∷◌, length, Bool, true, T, ◌&&◌, get_or, refl, subst, arith}
use Rattle.std.proofs.lemmas.Nat.{div-add-mod', mul-le}
use Rattle.std.proofs.Math.Nat.{lt_of_mul-lt-mul_right, mod-lt, mul-le-mul_right, mul-le-mul_left}
use Rattle.std.proofs.Math.Dec.{eqb}
use Rattle.std.proofs.Math.Facts.{eqb_yes}
use lib.Ieee.Fits.{and_l, and_r}
use Rattle.fixed_turns.specs.declared.series.TheConstants.{RECIPROCALS}
use Rattle.fixed_turns.specs.inside.Rests.{factorial}

pub quotient_low : (t d : ℕ) → t / d * d ≤ t
quotient_low t d = omega (arith, div-add-mod' t d)

pub quotient_high : (t d : ℕ) → 0 < d → t < (t / d + 1) * d
quotient_high t d o = omega (arith, div-add-mod' t d, mod-lt t o)

-- ---- factorials
pub factorial_some : (n : ℕ) → 0 < factorial n
unfolding factorial
factorial_some zero = omega arith
factorial_some (suc n) = mul-le 1 1 (suc n) (factorial n) (omega arith) (factorial_some n)

-- m is at least 1
pub factorial_two : (m : ℕ) → 1 ≤ m → factorial (m - 1) * (m * (m + 1)) ≡ factorial (m + 1)
unfolding factorial
factorial_two zero one = absurd (omega arith)
factorial_two (suc n) one =
    let e : suc n + 1 ≡ suc (suc n) = omega arith in
    let d : suc n - 1 ≡ n = omega arith in
    let a : factorial (suc (suc n)) ≡ suc (suc n) * (suc n * factorial n) = refl in
    rw (e, d, a) (omega arith)

factorial_more : (m : ℕ) → factorial (m + 1) ≤ factorial (m + 3)
unfolding factorial
factorial_more m =
    let e : m + 3 ≡ suc (suc (m + 1)) = omega arith in
    let n = factorial (m + 1) in
    let a : factorial (suc (suc (m + 1))) ≡ suc (suc (m + 1)) * (suc (m + 1) * n) = refl in
    let b = mul-le 1 1 (suc (suc (m + 1))) (suc (m + 1)) (omega arith) (omega arith) in
    let c : 1 * n ≤ suc (suc (m + 1)) * suc (m + 1) * n = mul-le-mul_right n b in
    rw (e, a) (omega arith)

-- reciprocals are smaller by greater factorials
pub smaller : (m w : ℕ) → w ≤ (2 ^ 64 - 1) / factorial (m + 3) → w ≤ (2 ^ 64 - 1) / factorial (m + 1)
smaller m w h =
    let p = factorial (m + 1) in
    let q = factorial (m + 3) in
    let a = mul-le-mul_right q h in
    let b = quotient_low (2 ^ 64 - 1) q in
    let c = quotient_high (2 ^ 64 - 1) p (factorial_some (m + 1)) in
    let d : w * p ≤ w * q = mul-le-mul_left w (factorial_more m) in
    let e : w * p < ((2 ^ 64 - 1) / p + 1) * p = omega arith in
    let l = lt_of_mul-lt-mul_right p e in
    omega (arith, l)

-- ---- the table: its first number is the reciprocal of n!
abbrev are_reciprocals : ℕ → List ℕ → Bool
are_reciprocals n [] = true
are_reciprocals n (x ∷ xs) = eqb x ((2 ^ 64 - 1) / factorial n) && are_reciprocals (n - 1) xs

reciprocal_at : (n : ℕ) (xs : List ℕ) → T (are_reciprocals n xs) → (i : ℕ) → i < length xs → get_or xs i 0 ≡ (2 ^ 64 - 1) / factorial (n - i)
reciprocal_at n [] t i l = absurd (omega arith)
reciprocal_at n (x ∷ xs) t zero l =
    let none : n ≡ n - 0 = omega arith in
    subst (λ (j : ℕ). x ≡ (2 ^ 64 - 1) / factorial j) none (eqb_yes (and_l (eqb x ((2 ^ 64 - 1) / factorial n)) (are_reciprocals (n - 1) xs) t))
reciprocal_at n (x ∷ xs) t (suc i) l =
    let next : n - 1 - i ≡ n - suc i = omega arith in
    subst (λ (j : ℕ). get_or xs i 0 ≡ (2 ^ 64 - 1) / factorial j) next (reciprocal_at (n - 1) xs (and_r (eqb x ((2 ^ 64 - 1) / factorial n)) (are_reciprocals (n - 1) xs) t) i (omega arith))

pub reciprocal_in : (n : ℕ) → n ≤ 20 → get_or RECIPROCALS (20 - n) 0 ≡ (2 ^ 64 - 1) / factorial n
unfolding factorial
reciprocal_in n few =
    let all : length RECIPROCALS ≡ 21 = refl in
    let whole : T (are_reciprocals 20 RECIPROCALS) = tt in
    let e : 20 - (20 - n) ≡ n = omega arith in
    subst (λ (j : ℕ). get_or RECIPROCALS (20 - n) 0 ≡ (2 ^ 64 - 1) / factorial j) e (reciprocal_at 20 RECIPROCALS whole (20 - n) (omega arith))
