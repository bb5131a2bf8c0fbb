-- How large words are, and their products by powers of two, beside the integer of 128 bits.
use Rattle.std.proofs.Common.{◌-◌, ◌^◌, ◌<◌, ◌≤◌, ◌*ℤ◌, ℕ, ℤ, suc, Bool, true, false, pos, negsuc, nat_abs, arith}
use Rattle.std.proofs.lemmas.Int.{ints}
use Rattle.std.proofs.lemmas.Nat.{mul-le, pow_pos}
use Rattle.std.proofs.Math.Nat.{div-le_self, pow-le-pow_right}
use Rattle.std.specs.Int.{w128}
use mir.Val.{SFits}
use Rattle.fixed_word.specs.Quotient.{floor_quotient}
use Rattle.fixed_convert.proofs.Moves.{floor_near}
use Rattle.fixed_word.specs.Format.{InRange, IsWidth}

-- a word has at most 64 bits
pub width_most : (n : ℕ) → IsWidth n → n ≤ 64
width_most n w = grind arith

small_of : (s : Bool) (n : ℕ) (a : ℤ) → n ≤ 64 → InRange s n a → nat_abs a < 2 ^ 64
small_of true n a l r =
    let e : n - 1 ≤ 63 = omega arith in
    let p = pow-le-pow_right {n = 2} (omega arith) {i = n - 1} {j = 63} e in
    let b = r.0 in
    let c = r.1 in
    omega (arith, ints)
small_of false n a l r =
    let p = pow-le-pow_right {n = 2} (omega arith) {i = n} {j = 64} l in
    let q = pow_pos n in
    let b = r.0 in
    let c = r.1 in
    omega (arith, ints)

pub small : (s : Bool) (n : ℕ) (a : ℤ) → IsWidth n → InRange s n a → nat_abs a < 2 ^ 64
small s n a w r = small_of s n a (width_most n w) r

-- a number of 64 bits, moved up by less than 64 places
pub raised_room : (a : ℤ) (k : ℕ) → nat_abs a < 2 ^ 64 → k < 64 → InRange true 128 (a *ℤ pos (2 ^ k))
raised_room (pos a) k l h =
    let e : k ≤ 63 = omega arith in
    let p = pow-le-pow_right {n = 2} (omega arith) {i = k} {j = 63} e in
    let b : a ≤ 18446744073709551615 = omega (arith, ints) in
    let m = mul-le a (2 ^ k) 18446744073709551615 9223372036854775808 b p in
    (omega (arith, ints), omega (arith, ints))
raised_room (negsuc a) k l h =
    let e : k ≤ 63 = omega arith in
    let p = pow-le-pow_right {n = 2} (omega arith) {i = k} {j = 63} e in
    let b : suc a ≤ 18446744073709551615 = omega (arith, ints) in
    let m = mul-le (suc a) (2 ^ k) 18446744073709551615 9223372036854775808 b p in
    (omega (arith, ints), omega (arith, ints))

-- ---- numbers of less than 100 bits

pub within : (x : ℤ) → nat_abs x < 2 ^ 100 → InRange true 128 x
within x h = (omega (arith, ints), omega (arith, ints))

pub fits_wide : (x : ℤ) → nat_abs x < 2 ^ 100 → SFits w128 x
fits_wide (pos a) h = record { sfits = omega (arith, ints) }
fits_wide (negsuc a) h = record { sfits = omega (arith, ints) }

pub power_most : (k : ℕ) → k ≤ 66 → 2 ^ k ≤ 2 ^ 66
power_most k h = pow-le-pow_right {n = 2} (omega arith) {i = k} {j = 66} h

pub low_size : (x : ℤ) (d : ℕ) → nat_abs (floor_quotient x d) ≤ nat_abs x
low_size (pos a) d = omega (arith, ints, div-le_self a d)
low_size (negsuc a) d = omega (arith, ints, div-le_self a d)

pub floor_size : (x : ℤ) (k : ℕ) → nat_abs x < 2 ^ 64 → k ≤ 66 → nat_abs (floor_quotient x (2 ^ k) *ℤ pos (2 ^ k)) < 2 ^ 68
floor_size x k l h =
    let p = power_most k h in
    let n = floor_near x (2 ^ k) (pow_pos k) in
    let a = n.0 in
    let b = n.1 in
    omega (arith, ints)
