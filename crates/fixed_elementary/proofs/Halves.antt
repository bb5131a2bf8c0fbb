-- Products of numbers by their halves.
use Rattle.std.proofs.Common.{◌≡◌, ◌+◌, ◌*◌, ◌/◌, ◌^◌, ◌<◌, ◌≤◌, ℕ, ap, sym, arith}
use Rattle.std.proofs.lemmas.Nat.{div-add-mod', mod_below}

-- m is the number of values of a half; l, f and s are the products of which the halves come
pub product_is : (m a b ah al bh bl lh ll fh fl sh sl : ℕ) → ah * m + al ≡ a → bh * m + bl ≡ b → lh * m + ll ≡ al * bl + 0 → fh * m + fl ≡ al * bh + lh
    → sh * m + sl ≡ ah * bl + fl → (ah * bh + fh + sh) * (m * m) + (sl * m + ll) ≡ a * b
product_is m a b ah al bh bl lh ll fh fl sh sl e f g h i =
    let first : (fh * m + fl) * m ≡ (al * bh + lh) * m = ap (λ x. x * m) h in
    let second : (sh * m + sl) * m ≡ (ah * bl + fl) * m = ap (λ x. x * m) i in
    rw (sym e, sym f) (omega arith)

-- a product of n, whose halves are h and l, by f units of 2^-63
pub scaled_is : (n h l f g q : ℕ) → h * 2 ^ 64 + l ≡ n → g ≡ f → q ≡ l * g / 2 ^ 63 → ((2 * (h * g) + q) * 2 ^ 63 ≤ n * f) × (n * f < (2 * (h * g) + q + 1) * 2 ^ 63)
scaled_is n h l f g q e s d =
    let a = div-add-mod' (l * g) (2 ^ 63) in
    let b = mod_below (l * g) (2 ^ 63) (omega arith) in
    rw (sym e, sym s, d) (omega arith, omega arith)
