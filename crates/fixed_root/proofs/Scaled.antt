-- The root of a number times a power of two, in words that hold the product.
use Rattle.std.proofs.Common.{◌≡◌, ◌+◌, ◌*◌, ◌%◌, ◌^◌, ◌<◌, ◌≤◌, ℕ, pos, arith}
use Rattle.std.proofs.lemmas.Int.{ints}
use Rattle.std.proofs.lemmas.Nat.{mul-le}
use Rattle.std.proofs.Math.Nat.{mod-eq_of_lt}
use Rattle.fixed_root.specs.Root.{root_of}
use Rattle.fixed_root.proofs.RootLaws.{root_is}
use Rattle.fixed_root.proofs.Turns.{pow_le}

-- the product fits
pub product_below : (a f m n : ℕ) → a < 2 ^ m → f ≤ n → a * 2 ^ f < 2 ^ m * 2 ^ n
product_below a f m n h l =
    let p = pow_le f n l in
    let one = pow_le 0 f (omega arith) in
    omega (arith, mul-le (a + 1) (2 ^ f) (2 ^ m) (2 ^ n) (omega arith) p)

-- so its root is that of the word
pub scaled_is : (a f r w : ℕ) → a * 2 ^ f < w → r * r ≤ a * 2 ^ f % w → a * 2 ^ f % w < (r + 1) * (r + 1) → pos r ≡ root_of (pos a) f
scaled_is a f r w fits low high =
    let e = mod-eq_of_lt fits in
    root_is (pos a) (pos r) f (omega (arith, ints)) (record { from_zero = omega (arith, ints); below = omega (arith, ints, e); above = omega (arith, ints, e) })
