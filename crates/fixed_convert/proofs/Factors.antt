-- Products of words: how large they are, and their signs and magnitudes.
use Rattle.std.proofs.Common.{◌≡◌, ◌↔◌, ◌+◌, ◌-◌, ◌*◌, ◌^◌, ◌<◌, ◌≤◌, ◌<ℤ◌, ◌*ℤ◌, ℕ, ℤ, zero, suc, Bool, true, false, pos, negsuc, nat_abs, refl, ap, ◌∙◌, arith}
use Rattle.std.specs.Prelude.{IsTrue, unsigned_abs}
use Rattle.std.specs.Int.{cast_signed, cast_unsigned, w64}
use mir.Val.{SFits}
use mathlib.Core.Bool.{not, beq}
use Rattle.std.proofs.lemmas.Bool.{false≢true}
use Rattle.std.proofs.lemmas.Int.{ints, to_z-of_z}
use Rattle.std.proofs.lemmas.Nat.{mul-le, pow-add, pow_pos}
use Rattle.std.proofs.Math.Nat.{pow-le-pow_right}
use Rattle.fixed_word.specs.Format.{InRange, with_sign, wrap}
use Rattle.fixed_word.specs.declared.rounding.Rounding.{Rounding}
use Rattle.fixed_word.proofs.Wraps.{wrap_same}
use Rattle.fixed_kernel.specs.Rounded.{rounded}
use Rattle.fixed_kernel.proofs.Stepped.{rounded_signed, stepped}
use Rattle.fixed_convert.specs.inside.Narrow.{digits_of}

-- ---- sizes
pub digits_bound : (s : Bool) (n : ℕ) (a : ℤ) → InRange s n a → nat_abs a ≤ 2 ^ digits_of s n
digits_bound true n a r =
    let b = r.0 in
    let c = r.1 in
    let p = pow_pos (n - 1) in
    omega (arith, ints)
digits_bound false n a r =
    let b = r.0 in
    let c = r.1 in
    let p = pow_pos n in
    omega (arith, ints)

abs_times : (a b : ℤ) → nat_abs (a *ℤ b) ≡ nat_abs a * nat_abs b
abs_times (pos a) (pos b) = omega (arith, ints)
abs_times (pos a) (negsuc b) = omega (arith, ints)
abs_times (negsuc a) (pos b) = omega (arith, ints)
abs_times (negsuc a) (negsuc b) = omega (arith, ints)

below_63 : (k : ℕ) → k < 63 → 2 ^ k ≤ 2 ^ 62
below_63 k h = pow-le-pow_right {n = 2} (omega arith) {i = k} {j = 62} (omega arith)

in_64 : (x : ℤ) → nat_abs x ≤ 2 ^ 62 → InRange true 64 x
in_64 x h = (omega (arith, ints), omega (arith, ints))

pub product_in_64 : (a b : ℤ) (j k : ℕ) → nat_abs a ≤ 2 ^ j → nat_abs b ≤ 2 ^ k → j + k < 63 → InRange true 64 (a *ℤ b)
product_in_64 a b j k h l s =
    let m = mul-le (nat_abs a) (nat_abs b) (2 ^ j) (2 ^ k) h l in
    let p = pow-add 2 j k in
    let q = below_63 (j + k) s in
    let e = abs_times a b in
    in_64 (a *ℤ b) (omega arith)

-- what 64 bits keep of so small a number
pub kept_in_64 : (a : ℤ) (k : ℕ) → nat_abs a ≤ 2 ^ k → k < 63 → wrap true 64 a ≡ a
kept_in_64 a k h s = let q = below_63 k s in wrap_same true 64 a (omega arith) (in_64 a (omega arith))

-- an integer of 64 bits, read back
pub read_short : (z y : ℤ) → SFits w64 z → z ≡ y → cast_signed w64 (cast_unsigned w64 z) ≡ y
read_short z y f e = to_z-of_z w64 z f ∙ e

-- ---- signs

signed_is : (b : Bool) (a : ℤ) → (IsTrue b ↔ (a <ℤ pos 0)) → with_sign b (unsigned_abs a) ≡ a
signed_is true (negsuc a) h = omega (arith, ints)
signed_is true (pos a) h = let l = h.0 refl in absurd (omega (arith, ints))
signed_is false (pos a) h = omega (arith, ints)
signed_is false (negsuc a) h = absurd (false≢true (h.1 (omega (arith, ints))))

signs_times : (b c : Bool) (m n : ℕ) → with_sign (not (beq b c)) (m * n) ≡ with_sign b m *ℤ with_sign c n
signs_times false false m n = omega (arith, ints)
signs_times false true m zero = omega (arith, ints)
signs_times false true m (suc n) = omega (arith, ints)
signs_times true false zero n = omega (arith, ints)
signs_times true false (suc m) n = omega (arith, ints)
signs_times true true zero n = omega (arith, ints)
signs_times true true (suc m) zero = omega (arith, ints)
signs_times true true (suc m) (suc n) = omega (arith, ints)

pub product_is : (b c : Bool) (m n : ℕ) (x y : ℤ) → (IsTrue b ↔ (x <ℤ pos 0)) → (IsTrue c ↔ (y <ℤ pos 0)) → m ≡ unsigned_abs x → n ≡ unsigned_abs y
    → with_sign (not (beq b c)) (m * n) ≡ x *ℤ y
product_is b c m n x y h l e f = signs_times b c m n ∙ (λ i. (ap (with_sign b) e ∙ signed_is b x h) i *ℤ (ap (with_sign c) f ∙ signed_is c y l) i)

above_it : (b : Bool) → not (beq b false) ≡ b
above_it true = refl
above_it false = refl

pub rounded_magnitude : (k : Rounding) (b : Bool) (m d : ℕ) → 0 < d → rounded (with_sign b m) (pos d) k ≡ with_sign b (stepped k b m d)
rounded_magnitude k b m d h = rounded_signed k b false m d h ∙ ap (λ (c : Bool). with_sign c (stepped k c m d)) (above_it b)
