-- The exponent of 2 of a power, in whole numbers: n is 2^f, d is 2^64, h is 2^121 and u is 2^57, of which h is d u. s and s + 2
-- enclose the logarithm, m is the exponent, x the distance of the logarithm from f, and t the product of both.
use Rattle.std.proofs.Common.{◌≡◌, ◌+◌, ◌*◌, ◌<◌, ◌≤◌, ℕ, arith}
use Rattle.std.proofs.Math.Nat.{le_of_mul-le-mul_right, lt_of_mul-lt-mul_right, mul-le-mul_right}

-- the product is so near
pub near_below : (x m n d t : ℕ) → 0 < d → t * (d * d * n) ≤ x * (m * d) → t * (n * d) ≤ x * m
near_below x m n d t o h = let a : t * (n * d) * d ≤ x * m * d = omega arith in le_of_mul-le-mul_right a o

pub near_above : (x m n d t : ℕ) → x * (m * d) < (t + 1) * (d * d * n) → x * m < (t + 1) * (n * d)
near_above x m n d t h = let a : x * m * d < (t + 1) * (n * d) * d = omega arith in lt_of_mul-lt-mul_right d a

-- where the logarithm, or minus it, is above f: l is its end, and k the other's distance, 2 less
pub up_most : (m f n d u h l x t : ℕ) → 0 < d → h ≡ d * u → l ≡ x + f * h → x * (m * d) < (t + 1) * (d * d * n)
    → m * l + f * n * h + n * d ≤ (f * u + t + 2) * (n * d) + m * (f * h)
up_most m f n d u h l x t o e g q =
    let a = near_above x m n d t q in
    let b : m * l ≡ m * (x + f * h) = rw g (omega arith) in
    let c : f * n * h ≡ f * u * (n * d) = rw e (omega arith) in
    omega arith

pub up_least : (m f n d u h l x t : ℕ) → 0 < d → m ≤ n * d → h ≡ d * u → l ≡ x + f * h → t * (d * d * n) ≤ x * (m * d)
    → (f * u + t + 2) * (n * d) + m * (f * h) + m * 2 ≤ m * l + f * n * h + 4 * (n * d)
up_least m f n d u h l x t o few e g q =
    let a = near_below x m n d t o q in
    let b : m * l ≡ m * (x + f * h) = rw g (omega arith) in
    let c : f * n * h ≡ f * u * (n * d) = rw e (omega arith) in
    omega arith

pub down_most : (m f n d u h l x t y : ℕ) → 0 < d → h ≡ d * u → x + l ≡ f * h → y + t ≡ f * u + 1 → t * (d * d * n) ≤ x * (m * d)
    → m * l + f * n * h + n * d ≤ y * (n * d) + m * (f * h)
down_most m f n d u h l x t y o e g s q =
    let a = near_below x m n d t o q in
    let b : m * (x + l) ≡ m * (f * h) = rw g (omega arith) in
    let c : f * n * h ≡ f * u * (n * d) = rw e (omega arith) in
    let i : (y + t) * (n * d) ≡ (f * u + 1) * (n * d) = rw s (omega arith) in
    omega arith

pub down_least : (m f n d u h l x t y : ℕ) → 0 < d → m ≤ n * d → h ≡ d * u → x + l ≡ f * h → y + t ≡ f * u + 1 → x * (m * d) < (t + 1) * (d * d * n)
    → y * (n * d) + m * (f * h) + m * 2 ≤ m * l + f * n * h + 4 * (n * d)
down_least m f n d u h l x t y o few e g s q =
    let a = near_above x m n d t q in
    let b : m * (x + l) ≡ m * (f * h) = rw g (omega arith) in
    let c : f * n * h ≡ f * u * (n * d) = rw e (omega arith) in
    let i : (y + t) * (n * d) ≡ (f * u + 1) * (n * d) = rw s (omega arith) in
    omega arith

pub down_none : (m f n d u h l x t : ℕ) → 0 < d → 0 < n * d → h ≡ d * u → x + l ≡ f * h → f * u + 1 < t → t * (d * d * n) ≤ x * (m * d)
    → m * l + f * n * h < m * (f * h)
down_none m f n d u h l x t o some e g s q =
    let a = near_below x m n d t o q in
    let b : m * (x + l) ≡ m * (f * h) = rw g (omega arith) in
    let c : f * n * h ≡ f * u * (n * d) = rw e (omega arith) in
    let i : (f * u + 2) * (n * d) ≤ t * (n * d) = mul-le-mul_right (n * d) (omega arith) in
    omega arith
