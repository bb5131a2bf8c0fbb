-- Powers of a power of 2, and quotients by them.
use Rattle.std.proofs.Common.{◌≡◌, ◌+◌, ◌-◌, ◌*◌, ◌/◌, ◌%◌, ◌^◌, ◌<◌, ◌≤◌, ℕ, zero, suc, refl, sym, ap, ◌∙◌, mul-zero, add-zero, pow-add, pow-suc, arith}
use Rattle.std.proofs.Math.Nat.{mul-suc, one-le-pow, pow-le-pow_right, pow-zero}
use Rattle.std.proofs.lemmas.Nat.{div_below, mul-le}

pub pow_pow : (a b k : ℕ) → (a ^ b) ^ k ≡ a ^ (b * k)
pow_pow a b zero = pow-zero (a ^ b) ∙ sym (ap (λ n. a ^ n) (mul-zero b) ∙ pow-zero a)
pow_pow a b (suc k) = pow-suc (a ^ b) k ∙ ap (λ n. n * a ^ b) (pow_pow a b k) ∙ sym (ap (λ n. a ^ n) (mul-suc b k) ∙ pow-add a (b * k) b)

pub below_more : (n k : ℕ) → 0 < n → n < 2 ^ k → 0 < k
below_more n zero h lt = absurd (omega arith)
below_more n (suc k) h lt = omega arith

-- one digit less
pub shorter : (n k b : ℕ) → n < 2 ^ suc k → 1 ≤ b → n / 2 ^ b < 2 ^ k
shorter n k b lt one =
    let two : 2 ≤ 2 ^ b = pow-le-pow_right {n = 2} (omega arith) {i = 1} {j = b} one in
    let m = mul-le (2 ^ k) 2 (2 ^ k) (2 ^ b) (omega arith) two in
    div_below n (2 ^ b) (2 ^ k) (omega arith) (omega (arith, pow-suc 2 k))
