-- Numbers that move down past their digits, or up past every word.
use Rattle.std.proofs.Common.{◌≡◌, ◌+◌, ◌-◌, ◌*◌, ◌/◌, ◌%◌, ◌^◌, ◌<◌, ◌≤◌, ℕ, zero, suc, Bool, true, false, pos, neg_ℤ, min, refl, ap, sym, ◌∙◌, arith, inl, inr, if◌then◌else◌, nat_le}
use native.Mathlib.Nat.{mul_assoc, mod-eq_of_lt, div-eq_of_lt, zero-add}
use Rattle.std.proofs.lemmas.Bool.{cases_lt}
use Rattle.std.proofs.lemmas.Bool.Decides.{nat_tests}
use Rattle.std.proofs.lemmas.Int.{ints}
use Rattle.std.proofs.lemmas.Nat.{pow-add, pow_pos, mul-le}
use Rattle.fixed_word.specs.Format.{with_sign}
use Rattle.fixed_word.specs.declared.rounding.Rounding.{Rounding}
use Rattle.fixed_word.specs.declared.rounding.Rounding.TheVariants.{Down, Zero, Even}
use Rattle.fixed_kernel.specs.inside.Alike.{Alike}
use Rattle.fixed_kernel.specs.inside.Steps.{rounding_step}
use Rattle.fixed_kernel.specs.Rounded.{rounded}
use Rattle.fixed_kernel.proofs.Alikes.{alike_same}
use Rattle.fixed_kernel.proofs.Stepped.{stepped}
use Rattle.fixed_float.proofs.Roundings.{rounded_same, rounded_whole}
use Rattle.fixed_convert.proofs.Factors.{rounded_magnitude}

-- ---- down
even_small : (n d : ℕ) (b : Bool) → 2 * n ≤ d → nat_le (2 * n + 0 % 2) d ≡ b → ◌≡◌ {A = ℕ} (if b then 0 else 1) 0
even_small n d true h e = refl
even_small n d false h e = let c : d < 2 * n + 0 % 2 = grind (arith, nat_tests) in absurd (omega arith)

-- where a number is at most a half
abbrev least_step : Rounding → Bool → ℕ → ℕ
least_step Down true zero = 0
least_step Down true (suc n) = 1
least_step Down false n = 0
least_step Zero below n = 0
least_step Even below n = 0

step_small : (k : Rounding) (below : Bool) (n d : ℕ) → 2 * n ≤ d → rounding_step k below 0 n d ≡ least_step k below n
step_small Down true zero d h = refl
step_small Down true (suc n) d h = refl
step_small Down false n d h = refl
step_small Zero below n d h = refl
step_small Even below n d h = even_small n d (nat_le (2 * n + 0 % 2) d) h refl

stepped_least : (k : Rounding) (below : Bool) (n d : ℕ) → 2 * n ≤ d → 0 < d → stepped k below n d ≡ least_step k below n
stepped_least k below n d h D =
    let l : n < d = omega arith in
    let q : n / d ≡ 0 = div-eq_of_lt l in
    let r : n % d ≡ n = mod-eq_of_lt l in
    (λ i. q i + rounding_step k below (q i) (r i) d) ∙ zero-add (rounding_step k below 0 n d) ∙ step_small k below n d h

pub stepped_far : (k : Rounding) (below : Bool) (n j : ℕ) → n < 2 ^ 62 → stepped k below n (2 ^ j) ≡ stepped k below n (2 ^ min j 63)
stepped_far k below n j N =
    elim (cases_lt 63 j) [
      | inl l ↦
          let m : min j 63 ≡ 63 = omega arith in
          let big : 2 ^ j ≡ 2 ^ (j - 63) * 2 ^ 63 = ap (λ (z : ℕ). 2 ^ z) {x = j} {y = j - 63 + 63} (omega arith) ∙ pow-add 2 (j - 63) 63 in
          let some = pow_pos (j - 63) in
          stepped_least k below n (2 ^ j) (omega arith) (pow_pos j)
          ∙ sym (stepped_least k below n (2 ^ 63) (omega arith) (omega arith))
          ∙ ap (λ (z : ℕ). stepped k below n (2 ^ z)) (sym m)
      | inr g ↦ ap (λ (z : ℕ). stepped k below n (2 ^ z)) {x = j} {y = min j 63} (omega arith)
    ]

-- n * 2 ^ up over 2 ^ 1074
pub moved_down : (k : Rounding) (b : Bool) (n up : ℕ) → n < 2 ^ 53 → up ≤ 1074
    → with_sign b (stepped k b n (2 ^ min (1074 - up) 63)) ≡ rounded (with_sign b (n * 2 ^ up)) (pos (2 ^ 1074)) k
moved_down k b n up N U =
    let by = 1074 - up in
    let p : 2 ^ up * 2 ^ by ≡ 2 ^ 1074 = sym (pow-add 2 up by) ∙ ap (λ (z : ℕ). 2 ^ z) {x = up + by} {y = 1074} (omega arith) in
    let e : n * 2 ^ up * 2 ^ by ≡ n * 2 ^ 1074 = mul_assoc n (2 ^ up) (2 ^ by) ∙ ap (λ (z : ℕ). n * z) p in
    ap (with_sign b) (sym (stepped_far k b n by (omega arith)))
    ∙ sym (rounded_magnitude k b n (2 ^ by) (pow_pos by))
    ∙ sym (rounded_same k b (n * 2 ^ up) (2 ^ 1074) n (2 ^ by) (pow_pos 1074) (pow_pos by) e)

-- ---- up
far_alike : (b : Bool) (n c : ℕ) → 0 < c → Alike (2 ^ 64) (with_sign b (n * c * 2 ^ 64)) (with_sign b (n * 2 ^ 64))
far_alike b zero c C =
    let e : 0 * 2 ^ 64 ≡ 0 * c * 2 ^ 64 = omega arith in
    alike_same (2 ^ 64) (with_sign b (0 * c * 2 ^ 64)) (with_sign b (0 * 2 ^ 64)) (ap (with_sign b) e)
far_alike false (suc n) c C =
    let m = mul-le (suc n) 1 (suc n) c (omega arith) C in
    record { bits = (pos (suc n * c - suc n), omega (arith, ints)); place = inr (inl (omega (arith, ints), omega (arith, ints))) }
far_alike true (suc n) c C =
    let m = mul-le (suc n) 1 (suc n) c (omega arith) C in
    record { bits = (neg_ℤ (pos (suc n * c - suc n)), omega (arith, ints)); place = inr (inr (omega (arith, ints), omega (arith, ints))) }

moved_alike : (b : Bool) (n j : ℕ) → Alike (2 ^ 64) (with_sign b (n * 2 ^ j)) (with_sign b (n * 2 ^ min j 64))
moved_alike b n j =
    elim (cases_lt 64 j) [
      | inl l ↦
          let m : min j 64 ≡ 64 = omega arith in
          let e : n * 2 ^ j ≡ n * 2 ^ (j - 64) * 2 ^ 64 =
          ap (λ (z : ℕ). n * z) (ap (λ (z : ℕ). 2 ^ z) {x = j} {y = j - 64 + 64} (omega arith) ∙ pow-add 2 (j - 64) 64) ∙ sym (mul_assoc n (2 ^ (j - 64)) (2 ^ 64)) in
          rw (e, m) (far_alike b n (2 ^ (j - 64)) (pow_pos (j - 64)))
      | inr g ↦ let m : min j 64 ≡ j = omega arith in rw m (alike_same (2 ^ 64) _ _ refl)
    ]

-- n * 2 ^ up over 2 ^ 1074, which is a whole number
pub moved_up : (k : Rounding) (b : Bool) (n up : ℕ) → 1074 < up
    → Alike (2 ^ 64) (rounded (with_sign b (n * 2 ^ up)) (pos (2 ^ 1074)) k) (with_sign b (n * 2 ^ min (up - 1074) 64))
moved_up k b n up U =
    let j = up - 1074 in
    let e : n * 2 ^ up ≡ n * 2 ^ j * 2 ^ 1074 =
    ap (λ (z : ℕ). n * z) (ap (λ (z : ℕ). 2 ^ z) {x = up} {y = j + 1074} (omega arith) ∙ pow-add 2 j 1074) ∙ sym (mul_assoc n (2 ^ j) (2 ^ 1074)) in
    rw (e, rounded_whole k b (n * 2 ^ j) (2 ^ 1074) (pow_pos 1074)) (moved_alike b n j)
