-- The magnitude of a rounded quotient is that of the magnitudes and a step.
use Rattle.std.proofs.Common.{◌≡◌, ◌⊎◌, ◌+◌, ◌*◌, ◌/◌, ◌%◌, ◌<◌, ◌≤◌, ℕ, zero, suc, Bool, true, false, pos, negsuc, neg_ℤ, refl, ap, arith, inl, inr, if◌then◌else◌, nat_le}
use mathlib.Core.Bool.{not, beq}
use Rattle.std.proofs.lemmas.Int.{ints}
use Rattle.std.proofs.lemmas.Nat.{div-add-mod', mod_below, mul-le}
use Rattle.std.proofs.lemmas.Bool.Decides.{nat_tests}
use Rattle.fixed_word.specs.Format.{with_sign}
use Rattle.fixed_word.specs.Quotient.{floor_quotient}
use Rattle.fixed_word.proofs.QuotientLaws.{floor_quotient_unique}
use Rattle.fixed_word.proofs.Wraps.{neg-times, suc_times}
use Rattle.fixed_word.specs.declared.rounding.Rounding.{Rounding}
use Rattle.fixed_word.specs.declared.rounding.Rounding.TheVariants.{Down, Zero, Even}
use Rattle.fixed_kernel.specs.Rounded.{nearest, rounded}
use Rattle.fixed_kernel.specs.inside.Steps.{rounding_step}

-- ---- size
abbrev one_unless : Bool → ℕ
one_unless b = if b then 0 else 1

even_step : (q r d : ℕ) (b : Bool) → 0 < d → nat_le (2 * r + q % 2) d ≡ b → (one_unless b ≡ 0) ⊎ ((one_unless b ≡ 1) × (0 < r))
even_step q r d true h e = inl refl
even_step q r d false h e =
    let c : d < 2 * r + q % 2 = grind (arith, nat_tests) in
    let t = mod_below q 2 (omega arith) in
    inr (refl, omega arith)

-- a quotient without a remainder is not moved
step_is : (k : Rounding) (below : Bool) (q r d : ℕ) → 0 < d → (rounding_step k below q r d ≡ 0) ⊎ ((rounding_step k below q r d ≡ 1) × (0 < r))
step_is Down true q zero d h = inl refl
step_is Down true q (suc r) d h = inr (refl, omega arith)
step_is Down false q r d h = inl refl
step_is Zero below q r d h = inl refl
step_is Even below q r d h = even_step q r d (nat_le (2 * r + q % 2) d) h refl

pub stepped_small : (k : Rounding) (below : Bool) (m d : ℕ) → 0 < d → m / d + rounding_step k below (m / d) (m % d) d ≤ m
stepped_small k below m d h =
    let e = div-add-mod' m d in
    let r = mod_below m d h in
    let one = mul-le (m / d) 1 (m / d) d (omega arith) (omega arith) in
    elim (step_is k below (m / d) (m % d) d h) [
      | inl none ↦ omega arith
      | inr some ↦
          let s = some.0 in
          let t = some.1 in
          let two = mul-le (m / d) 2 (m / d) d (omega arith) (omega arith) in
          omega arith
    ]

-- ---- value
floor_below : (n d r : ℕ) → 0 < d → suc n % d ≡ r → floor_quotient (negsuc n) d ≡ neg_ℤ (pos (suc n / d + rounding_step Down true (suc n / d) r d))
floor_below n d zero h e =
    let s = div-add-mod' (suc n) d in
    let t = neg-times (suc n / d + 0) d in
    let u = suc_times (neg_ℤ (pos (suc n / d + 0))) d in
    floor_quotient_unique (negsuc n) (neg_ℤ (pos (suc n / d + 0))) d h (record { below = omega (arith, ints); above = omega (arith, ints) })
floor_below n d (suc r) h e =
    let s = div-add-mod' (suc n) d in
    let b = mod_below (suc n) d h in
    let t = neg-times (suc n / d + 1) d in
    let u = suc_times (neg_ℤ (pos (suc n / d + 1))) d in
    floor_quotient_unique (negsuc n) (neg_ℤ (pos (suc n / d + 1))) d h (record { below = omega (arith, ints); above = omega (arith, ints) })

nearest_stepped : (q p : ℕ) (b : Bool) → (if b then q else suc q) ≡ q + (if b then 0 else 1)
nearest_stepped q p true = omega arith
nearest_stepped q p false = omega arith

near_step : (a d : ℕ) (below : Bool) → nearest a d ≡ a / d + rounding_step Even below (a / d) (a % d) d
near_step a d below = nearest_stepped (a / d) 0 (nat_le (2 * (a % d) + a / d % 2) d)

zero_step : (k : Rounding) (below : Bool) (d : ℕ) → 0 < d → 0 / d + rounding_step k below (0 / d) (0 % d) d ≡ 0
zero_step k below d h = omega (arith, stepped_small k below 0 d h)

abbrev pub stepped : Rounding → Bool → ℕ → ℕ → ℕ
stepped k below m d = m / d + rounding_step k below (m / d) (m % d) d

down_signed : (b c : Bool) (m e : ℕ) → rounded (with_sign b m) (with_sign c (suc e)) Down ≡ with_sign (not (beq b c)) (stepped Down (not (beq b c)) m (suc e))
down_signed false false m e = omega (arith, ints)
down_signed true true zero e = omega (arith, ints)
down_signed true true (suc n) e = omega (arith, ints)
down_signed true false zero e = omega (arith, ints, zero_step Down true (suc e) (omega arith))
down_signed true false (suc n) e = floor_below n (suc e) (suc n % suc e) (omega arith) refl
down_signed false true zero e = omega (arith, ints, zero_step Down true (suc e) (omega arith))
down_signed false true (suc n) e = floor_below n (suc e) (suc n % suc e) (omega arith) refl

zero_signed : (b c : Bool) (m e : ℕ) → rounded (with_sign b m) (with_sign c (suc e)) Zero ≡ with_sign (not (beq b c)) (stepped Zero (not (beq b c)) m (suc e))
zero_signed false false m e = omega (arith, ints)
zero_signed true true zero e = omega (arith, ints)
zero_signed true true (suc n) e = omega (arith, ints)
zero_signed true false zero e = omega (arith, ints)
zero_signed true false (suc n) e = omega (arith, ints)
zero_signed false true m e = omega (arith, ints)

even_signed : (b c : Bool) (m e : ℕ) → rounded (with_sign b m) (with_sign c (suc e)) Even ≡ with_sign (not (beq b c)) (stepped Even (not (beq b c)) m (suc e))
even_signed false false m e = ap pos (near_step m (suc e) false)
even_signed true true zero e = ap pos (near_step zero (suc e) false)
even_signed true true (suc n) e = ap pos (near_step (suc n) (suc e) false)
even_signed true false zero e = omega (arith, ints, near_step zero (suc e) true, zero_step Even true (suc e) (omega arith))
even_signed true false (suc n) e = ap (λ (x : ℕ). neg_ℤ (pos x)) (near_step (suc n) (suc e) true)
even_signed false true zero e = omega (arith, ints, near_step zero (suc e) true, zero_step Even true (suc e) (omega arith))
even_signed false true (suc n) e = ap (λ (x : ℕ). neg_ℤ (pos x)) (near_step (suc n) (suc e) true)

pub rounded_signed : (k : Rounding) (b c : Bool) (m d : ℕ) → 0 < d → rounded (with_sign b m) (with_sign c d) k ≡ with_sign (not (beq b c)) (stepped k (not (beq b c)) m d)
rounded_signed k b c m zero h = absurd (omega arith)
rounded_signed Down b c m (suc e) h = down_signed b c m e
rounded_signed Zero b c m (suc e) h = zero_signed b c m e
rounded_signed Even b c m (suc e) h = even_signed b c m e
