-- Exponents that are times a quotient p / q: powers compared by their powers.
use Rattle.std.proofs.Common.{◌≡◌, ◌+◌, ◌*◌, ◌^◌, ◌<◌, ◌≤◌, ℕ, ap, sym, subst, ◌∙◌, inl, inr, arith}
use Rattle.std.proofs.lemmas.Bool.{cases_lt}
use Rattle.std.proofs.lemmas.Nat.{mul-pow, pow-add, pow_pos}
use Rattle.std.proofs.Math.Nat.{mul-le-mul_right, pow-le-pow_left, pow-le-pow_right, pow-lt-pow_left}
use Rattle.fixed_elementary.proofs.Reading.{pow_times, root_le, root_lt}

-- a raised to 2^(f + g) m is its power with 2^f m, raised to 2^g
raised : (a f g m : ℕ) → (a ^ 2 ^ (f + g)) ^ m ≡ (a ^ (2 ^ f * m)) ^ 2 ^ g
raised a f g m =
    let e = pow-add 2 f g in
    let s : 2 ^ (f + g) * m ≡ 2 ^ f * m * 2 ^ g = rw e (omega arith) in
    pow_times a (2 ^ (f + g)) m ∙ ap (λ n. a ^ n) s ∙ sym (pow_times a (2 ^ f * m) (2 ^ g))

pub power_below : (a f g s m x b : ℕ) → 2 ^ s ≤ a ^ 2 ^ (f + g) → x * 2 ^ g ≤ s * m + b * 2 ^ g → 2 ^ x ≤ a ^ (2 ^ f * m) * 2 ^ b
power_below a f g s m x b h l =
    let up : (2 ^ s) ^ m ≤ (a ^ 2 ^ (f + g)) ^ m = pow-le-pow_left h m in
    let e = raised a f g m in
    let c = pow_times 2 s m in
    let d = pow_times 2 b (2 ^ g) in
    let i = pow_times 2 x (2 ^ g) in
    let j = pow-add 2 (s * m) (b * 2 ^ g) in
    let k : 2 ^ (x * 2 ^ g) ≤ 2 ^ (s * m + b * 2 ^ g) = pow-le-pow_right {n = 2} (omega arith) l in
    let n = mul-pow (a ^ (2 ^ f * m)) (2 ^ b) (2 ^ g) in
    let low : 2 ^ (s * m) ≤ (a ^ (2 ^ f * m)) ^ 2 ^ g = subst (λ y. y ≤ (a ^ (2 ^ f * m)) ^ 2 ^ g) c (subst (λ y. (2 ^ s) ^ m ≤ y) e up) in
    let w : 2 ^ (s * m) * 2 ^ (b * 2 ^ g) ≤ (a ^ (2 ^ f * m)) ^ 2 ^ g * 2 ^ (b * 2 ^ g) = mul-le-mul_right (2 ^ (b * 2 ^ g)) low in
    let t : (2 ^ x) ^ 2 ^ g ≤ (a ^ (2 ^ f * m) * 2 ^ b) ^ 2 ^ g = rw (n, i, d) (omega arith) in
    root_le (2 ^ x) (a ^ (2 ^ f * m) * 2 ^ b) (2 ^ g) (pow_pos g) t

pub power_above : (a f g s m x b : ℕ) → 0 < m → a ^ 2 ^ (f + g) < 2 ^ s → s * m + b * 2 ^ g ≤ x * 2 ^ g → a ^ (2 ^ f * m) * 2 ^ b < 2 ^ x
power_above a f g s m x b o h l =
    let up : (a ^ 2 ^ (f + g)) ^ m < (2 ^ s) ^ m = pow-lt-pow_left h (omega arith) in
    let e = raised a f g m in
    let c = pow_times 2 s m in
    let d = pow_times 2 b (2 ^ g) in
    let i = pow_times 2 x (2 ^ g) in
    let j = pow-add 2 (s * m) (b * 2 ^ g) in
    let k : 2 ^ (s * m + b * 2 ^ g) ≤ 2 ^ (x * 2 ^ g) = pow-le-pow_right {n = 2} (omega arith) l in
    let n = mul-pow (a ^ (2 ^ f * m)) (2 ^ b) (2 ^ g) in
    let low : (a ^ (2 ^ f * m)) ^ 2 ^ g < 2 ^ (s * m) = subst (λ y. (a ^ (2 ^ f * m)) ^ 2 ^ g < y) c (subst (λ y. y < (2 ^ s) ^ m) e up) in
    let less : (a ^ (2 ^ f * m)) ^ 2 ^ g + 1 ≤ 2 ^ (s * m) = omega arith in
    let w : ((a ^ (2 ^ f * m)) ^ 2 ^ g + 1) * 2 ^ (b * 2 ^ g) ≤ 2 ^ (s * m) * 2 ^ (b * 2 ^ g) = mul-le-mul_right (2 ^ (b * 2 ^ g)) less in
    let t : (a ^ (2 ^ f * m) * 2 ^ b) ^ 2 ^ g < (2 ^ x) ^ 2 ^ g = rw (n, i, d) (omega (arith, pow_pos (b * 2 ^ g))) in
    root_lt (a ^ (2 ^ f * m) * 2 ^ b) (2 ^ x) (2 ^ g) t
