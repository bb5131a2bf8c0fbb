-- A logarithm's product by a constant, rounded, in whole numbers. s and s + 2 enclose the logarithm, y is the offset f 2^f
-- times g = 2 j, and the constant c is q / p in units of 1 / d, rounded down.
use Rattle.std.proofs.Common.{◌≡◌, ◌+◌, ◌*◌, ◌<◌, ◌≤◌, ℕ, arith}
use Rattle.std.proofs.Math.Nat.{le_of_mul-le-mul_right, mul-le-mul_right, mul-le-mul_left}

-- x is s + 2 less the offset
pub up_below : (s y j q p d c x u : ℕ) → 0 < d → s + 2 ≡ x + y * (2 * j) → u * (d * (2 * j)) ≤ x * (c + 1) → c * p ≤ d * q → d * q ≤ (c + 1) * p
    → x + 2 * (c + 1) ≤ 2 * d → (u * j * p + y * q * j) * (2 * j) ≤ s * (q * j) + p * (2 * j)
up_below s y j q p d c x u o e h l m n =
    let a : u * (d * (2 * j)) * p ≤ x * (c + 1) * p = mul-le-mul_right p h in
    let b : x * (c * p) ≤ x * (d * q) = mul-le-mul_left x l in
    let f : u * (d * (2 * j)) * p ≤ x * (d * q) + x * p = omega arith in
    let g : (x + 2 * (c + 1)) * p ≤ 2 * d * p = mul-le-mul_right p n in
    let i : x * p + 2 * (d * q) ≤ 2 * d * p = omega arith in
    let k : (u * (d * (2 * j)) * p + 2 * (d * q)) * j ≤ (x * (d * q) + 2 * d * p) * j = mul-le-mul_right j (omega arith) in
    let r : (s + 2) * (d * q * j) ≡ (x + y * (2 * j)) * (d * q * j) = rw e (omega arith) in
    let t : (u * j * p + y * q * j) * (2 * j) * d ≤ (s * (q * j) + p * (2 * j)) * d = omega arith in
    le_of_mul-le-mul_right t o

pub up_above : (s y j q p d c x u : ℕ) → 0 < d → s + 2 ≡ x + y * (2 * j) → x * (c + 1) < (u + 1) * (d * (2 * j)) → d * q ≤ (c + 1) * p
    → (s + 2) * q + 0 * (2 * j) ≤ ((u + 1) * p + y * q) * (2 * j)
up_above s y j q p d c x u o e h m =
    let a : x * (c + 1) * p ≤ (u + 1) * (d * (2 * j)) * p = mul-le-mul_right p (omega arith) in
    let b : x * (d * q) ≤ x * ((c + 1) * p) = mul-le-mul_left x m in
    let r : (s + 2) * (d * q) ≡ (x + y * (2 * j)) * (d * q) = rw e (omega arith) in
    let t : ((s + 2) * q + 0 * (2 * j)) * d ≤ ((u + 1) * p + y * q) * (2 * j) * d = omega arith in
    le_of_mul-le-mul_right t o

-- x is the offset less s + 2, and v is the number below 0
pub down_below : (s y j q p d c x v : ℕ) → 0 < d → x + (s + 2) ≡ y * (2 * j) → x * c < v * (d * (2 * j)) → d * q ≤ (c + 1) * p
    → x + 2 * (c + 1) ≤ 2 * d → (0 * j * p + y * q * j) * (2 * j) ≤ s * (q * j) + (v * j + 1) * p * (2 * j)
down_below s y j q p d c x v o e h m n =
    let a : x * c * p ≤ v * (d * (2 * j)) * p = mul-le-mul_right p (omega arith) in
    let b : x * (d * q) ≤ x * ((c + 1) * p) = mul-le-mul_left x m in
    let g : (x + 2 * (c + 1)) * p ≤ 2 * d * p = mul-le-mul_right p n in
    let i : x * p + 2 * (d * q) ≤ 2 * d * p = omega arith in
    let k : (x * (d * q) + 2 * (d * q)) * j ≤ (v * (d * (2 * j)) * p + 2 * d * p) * j = mul-le-mul_right j (omega arith) in
    let r : (x + (s + 2)) * (d * q * j) ≡ y * (2 * j) * (d * q * j) = rw e (omega arith) in
    let t : (0 * j * p + y * q * j) * (2 * j) * d ≤ (s * (q * j) + (v * j + 1) * p * (2 * j)) * d = omega arith in
    le_of_mul-le-mul_right t o

pub down_above : (s y j q p d c x v : ℕ) → 0 < d → x + (s + 2) ≡ y * (2 * j) → v * (d * (2 * j)) ≤ x * c → c * p ≤ d * q
    → (s + 2) * q + (v + 1) * p * (2 * j) ≤ ((0 + 1) * p + y * q) * (2 * j)
down_above s y j q p d c x v o e h l =
    let a : v * (d * (2 * j)) * p ≤ x * c * p = mul-le-mul_right p h in
    let b : x * (c * p) ≤ x * (d * q) = mul-le-mul_left x l in
    let r : (x + (s + 2)) * (d * q) ≡ y * (2 * j) * (d * q) = rw e (omega arith) in
    let t : ((s + 2) * q + (v + 1) * p * (2 * j)) * d ≤ ((0 + 1) * p + y * q) * (2 * j) * d = omega arith in
    le_of_mul-le-mul_right t o
