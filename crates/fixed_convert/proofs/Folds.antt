-- Magnitudes moved up, of which every word keeps the same as of smaller ones.
use Rattle.std.proofs.Common.{◌≡◌, ◌+◌, ◌-◌, ◌*◌, ◌/◌, ◌%◌, ◌^◌, ◌<◌, ◌≤◌, ℕ, Bool, true, false, pos, neg_ℤ, ap, sym, ◌∙◌, arith, inl, inr}
use native.Mathlib.Nat.{mul_assoc, mul-pos, mod-eq_of_lt}
use Rattle.std.proofs.lemmas.Int.{ints}
use Rattle.std.proofs.lemmas.Nat.{div-add-mod', mul-le, pow-add, pow_pos, shl_below}
use Rattle.std.proofs.Math.Nat.{pow-le-pow_right}
use Rattle.fixed_word.specs.Format.{with_sign}
use Rattle.fixed_kernel.specs.inside.Alike.{Alike}
use Rattle.fixed_kernel.proofs.Alikes.{low_bits_of}

-- a number past 64 bits, and the one past them that ends in the same bits
folded : (b : Bool) (p : ℕ) → 2 ^ 64 ≤ p → Alike (2 ^ 64) (with_sign b p) (with_sign b (2 ^ 64 + p % 2 ^ 64))
folded false p h =
    let e = div-add-mod' p (2 ^ 64) in
    record { bits = (pos (p / 2 ^ 64 - 1), omega (arith, ints)); place = inr (inl (omega (arith, ints), omega (arith, ints))) }
folded true p h =
    let e = div-add-mod' p (2 ^ 64) in
    record { bits = (neg_ℤ (pos (p / 2 ^ 64 - 1)), omega (arith, ints)); place = inr (inr (omega (arith, ints), omega (arith, ints))) }

at_least : (m k : ℕ) → 2 ^ 64 ≤ m → 2 ^ 64 ≤ m * 2 ^ k
at_least m k h =
    let one = mul-le m 1 m (2 ^ k) (omega arith) (pow_pos k) in
    omega arith

pub raised_large : (b : Bool) (m k : ℕ) → 2 ^ 64 ≤ m
    → Alike (2 ^ 64) (with_sign b (m * 2 ^ k)) (with_sign b (2 ^ 64 + (m % 2 ^ 64 * 2 ^ k) % 2 ^ 128 % 2 ^ 64))
raised_large b m k h = rw (low_bits_of m k) (folded b (m * 2 ^ k) (at_least m k h))

-- a number of which no bit is left
far_multiple : (b : Bool) (c : ℕ) → 0 < c → Alike (2 ^ 64) (with_sign b (c * 2 ^ 64)) (with_sign b (2 ^ 64))
far_multiple false c h = record { bits = (pos (c - 1), omega (arith, ints)); place = inr (inl (omega (arith, ints), omega (arith, ints))) }
far_multiple true c h = record { bits = (neg_ℤ (pos (c - 1)), omega (arith, ints)); place = inr (inr (omega (arith, ints), omega (arith, ints))) }

pub raised_far : (b : Bool) (m k : ℕ) → 0 < m → 64 ≤ k → Alike (2 ^ 64) (with_sign b (m * 2 ^ k)) (with_sign b (2 ^ 64))
raised_far b m k h l =
    let e : m * 2 ^ k ≡ m * 2 ^ (k - 64) * 2 ^ 64 =
    ap (λ (z : ℕ). m * z) (ap (λ (z : ℕ). 2 ^ z) {x = k} {y = k - 64 + 64} (omega arith) ∙ pow-add 2 (k - 64) 64) ∙ sym (mul_assoc m (2 ^ (k - 64)) (2 ^ 64)) in
    rw e (far_multiple b (m * 2 ^ (k - 64)) (mul-pos h (pow_pos (k - 64))))

-- a number of 64 bits, moved up by less
pub raised_small : (m k : ℕ) → m < 2 ^ 64 → k < 64 → m * 2 ^ k ≡ m * 2 ^ k % 2 ^ 128
raised_small m k h l =
    let p = shl_below m 64 k h in
    let q = pow-le-pow_right {n = 2} (omega arith) {i = 64 + k} {j = 128} (omega arith) in
    sym (mod-eq_of_lt (omega arith))
