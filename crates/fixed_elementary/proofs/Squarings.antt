-- One digit of a logarithm by squaring, in whole numbers. A is the number, raised; w is the unit of the mantissa m.
use Rattle.std.proofs.Common.{◌≡◌, ◌+◌, ◌-◌, ◌*◌, ◌^◌, ◌<◌, ◌≤◌, ℕ, zero, suc, arith}
use Rattle.std.proofs.Math.Nat.{le_of_mul-le-mul_right, mul-le-mul_right, mul-le-mul_left, pow-suc, pow-zero}
use Rattle.std.proofs.lemmas.Nat.{mul-le}

-- P m / w is at most A; squared, and the square rounded down
pub lower : (A P m n w s : ℕ) → 0 < w → P * m ≤ A * w → n * (w * s) ≤ m * m → P * P * s * n ≤ A * A * w
lower A P m n w s o h f =
    let square = mul-le (P * m) (P * m) (A * w) (A * w) h h in
    let down = mul-le-mul_left (P * P) f in
    let t : P * P * s * n * w ≤ A * A * w * w = omega arith in
    le_of_mul-le-mul_right t o

-- and at least so, but for a factor v / c; rounding down costs a factor w / (w + 1) where the mantissa is at least w
pub upper : (A P m n w s c v : ℕ) → 0 < w → w ≤ n → A * w * v ≤ P * m * c → m * m ≤ (n + 1) * (w * s) → A * A * w * (v * v * w) ≤ P * P * s * n * (c * c * (w + 1))
upper A P m n w s c v o l h f =
    let square = mul-le-mul_right w (mul-le (A * w * v) (A * w * v) (P * m * c) (P * m * c) h h) in
    let up = mul-le-mul_left (P * P * (c * c) * w) f in
    let e : (n + 1) * w ≤ n * (w + 1) = omega arith in
    let r = mul-le-mul_left (P * P * (c * c) * w * s) e in
    let t : A * A * w * (v * v * w) * w ≤ P * P * s * n * (c * c * (w + 1)) * w = omega arith in
    le_of_mul-le-mul_right t o

-- (1 + 1/w)^k is at most w / (w - k)
pub growth : (w k d : ℕ) → w ≡ k + d → (w + 1) ^ k * d ≤ w ^ k * w
growth w zero d e =
    let a = pow-zero (w + 1) in
    let b = pow-zero w in
    rw (a, b) (omega arith)
growth w (suc k) d e =
    let h = growth w k (suc d) (omega arith) in
    let a = pow-suc (w + 1) k in
    let b = pow-suc w k in
    let x : (w + 1) * d ≤ w * suc d = omega arith in
    let y = mul-le-mul_left ((w + 1) ^ k) x in
    let z = mul-le-mul_left w h in
    rw (a, b) (omega arith)

-- a factor close to 1 stays at most 2
pub growth_within : (w k : ℕ) → 0 < w → 2 * k ≤ w → (w + 1) ^ k ≤ 2 * w ^ k
growth_within w k o h =
    let d = w - k in
    let e : w ≡ k + d = omega arith in
    let g = growth w k d e in
    let f : w ≤ 2 * d = omega arith in
    let m = mul-le-mul_left (w ^ k) f in
    let t : (w + 1) ^ k * d ≤ 2 * w ^ k * d = omega arith in
    le_of_mul-le-mul_right t (omega arith)
