-- How a number stands to a float, by its parts.
use Rattle.std.proofs.Common.{◌≡◌, ◌+◌, ◌-◌, ◌*◌, ◌^◌, ◌<◌, ◌≤◌, ◌*ℤ◌, ℕ, ℤ, Bool, true, false, pos, refl, ap, sym, ◌∙◌, arith}
use Rattle.std.specs.Prelude.{Some, None, if◌then◌else◌}
use Rattle.std.specs.declared.cmp.Ordering.TheVariants.{Less, Greater}
use mathlib.Core.Bool.{true≢false}
use native.Mathlib.Nat.{mul_assoc, mul_comm, mul_right_comm}
use Rattle.std.proofs.lemmas.Nat.{pow-add, pow_pos}
use Rattle.std.specs.Float.{Float, binary64, nan, inf, fin, float_is_finite}
use Rattle.std.specs.Ordering.{int_cmp}
use lib.Ieee.{down, is_nan, lt, of_bits, up}
use lib.Ieee.Exact.{HasValue}
use lib.Ieee.Fits.{down_pos}
use Rattle.fixed_word.specs.Format.{with_sign}
use Rattle.fixed_word.proofs.Wraps.{times_times}
use Rattle.fixed_kernel.proofs.Alikes.{signed_times}
use Rattle.fixed_convert.specs.Convert.{exact_order}
use Rattle.fixed_convert.proofs.Orders.{scaled_order}
use Rattle.fixed_float.specs.Rows.{float_order}
use Rattle.fixed_float.proofs.Rows.{infinity_sign}

-- ---- a float of the size n over c
both_scaled : (a : ℤ) (s : Bool) (n d c : ℕ) → 0 < c → int_cmp (a *ℤ pos d) (with_sign s n) ≡ int_cmp (a *ℤ pos (d * c)) (with_sign s (n * c))
both_scaled a s n d c h = scaled_order (a *ℤ pos d) (with_sign s n) c h ∙ (λ i. int_cmp (times_times a d c i) (signed_times s n c i))

pub order_of_value : (x : Float) (b : Bool) (n c g : ℕ) (a : ℤ) → 0 < c → HasValue x b n c
    → float_order a g x ≡ Some (int_cmp (a *ℤ pos c) (with_sign b (n * 2 ^ g)))
order_of_value nan b n c g a C h = absurd h
order_of_value (inf s) b n c g a C h = absurd h
order_of_value (fin s m e) b n c g a C h =
    let v : m * up e * 2 ^ g * c ≡ n * 2 ^ g * down e =
    mul_right_comm (m * up e) (2 ^ g) c ∙ ap (λ (z : ℕ). z * 2 ^ g) h.1 ∙ mul_right_comm n (down e) (2 ^ g) in
    ap Some
    (both_scaled a s (m * up e * 2 ^ g) (down e) c C
    ∙ (λ i. int_cmp (a *ℤ pos (mul_comm (down e) c i)) (with_sign (h.0 i) (v i)))
    ∙ sym (both_scaled a b (n * 2 ^ g) c (down e) (down_pos e)))

-- ---- by parts, as two words with fractions
times_powers : (x : ℤ) (i j k : ℕ) → i + j ≡ k → (x *ℤ pos (2 ^ i)) *ℤ pos (2 ^ j) ≡ x *ℤ pos (2 ^ k)
times_powers x i j k e = times_times x (2 ^ i) (2 ^ j) ∙ ap (λ (z : ℕ). x *ℤ pos z) (sym (pow-add 2 i j) ∙ ap (λ (z : ℕ). 2 ^ z) e)

signed_powers : (b : Bool) (m i j : ℕ) → with_sign b m *ℤ pos (2 ^ (i + j)) ≡ with_sign b (m * 2 ^ i * 2 ^ j)
signed_powers b m i j = ap (λ (z : ℕ). with_sign b m *ℤ pos z) (pow-add 2 i j) ∙ signed_times b m (2 ^ i * 2 ^ j) ∙ ap (with_sign b) (sym (mul_assoc m (2 ^ i) (2 ^ j)))

pub order_below : (a : ℤ) (b : Bool) (m g s : ℕ) → s ≤ 1074
    → exact_order a g (with_sign b m) (1074 - s) ≡ int_cmp (a *ℤ pos (2 ^ 1074)) (with_sign b (m * 2 ^ s * 2 ^ g))
order_below a b m g s h =
    let e : 1074 - s + s ≡ 1074 = omega arith in
    let f : g + s ≡ s + g = omega arith in
    scaled_order (a *ℤ pos (2 ^ (1074 - s))) (with_sign b m *ℤ pos (2 ^ g)) (2 ^ s) (pow_pos s)
    ∙ (λ i. int_cmp (times_powers a (1074 - s) s 1074 e i) ((times_powers (with_sign b m) g s (s + g) f ∙ signed_powers b m s g) i))

pub order_above : (a : ℤ) (b : Bool) (m g s : ℕ) → 1074 < s
    → exact_order a (g + (s - 1074)) (with_sign b m) 0 ≡ int_cmp (a *ℤ pos (2 ^ 1074)) (with_sign b (m * 2 ^ s * 2 ^ g))
order_above a b m g s h =
    let e : 0 + 1074 ≡ 1074 = omega arith in
    let f : g + (s - 1074) + 1074 ≡ s + g = omega arith in
    scaled_order (a *ℤ pos (2 ^ 0)) (with_sign b m *ℤ pos (2 ^ (g + (s - 1074)))) (2 ^ 1074) (pow_pos 1074)
    ∙ (λ i. int_cmp (times_powers a 0 1074 1074 e i) ((times_powers (with_sign b m) (g + (s - 1074)) 1074 (s + g) f ∙ signed_powers b m s g) i))

-- ---- what is no finite float
pub order_of_nan : (x : Float) (a : ℤ) (g : ℕ) → is_nan x ≡ true → None ≡ float_order a g x
unfolding is_nan
order_of_nan nan a g h = refl
order_of_nan (inf s) a g h = absurd (true≢false (sym h))
order_of_nan (fin s m e) a g h = absurd (true≢false (sym h))

pub order_of_infinity : (x : Float) (a : ℤ) (g : ℕ) (s : Bool) → float_is_finite x ≡ false → is_nan x ≡ false → lt x (of_bits binary64 0) ≡ s
    → Some (if s then Greater else Less) ≡ float_order a g x
unfolding is_nan float_is_finite
order_of_infinity nan a g s f h l = absurd (true≢false h)
order_of_infinity (inf t) a g s f h l = ap (λ (b : Bool). Some (if b then Greater else Less)) (sym l ∙ infinity_sign (inf t) t refl)
order_of_infinity (fin t m e) a g s f h l = absurd (true≢false f)
