-- A rounded quotient, from that of twice the dividend.
use Rattle.std.proofs.Common.{◌≡◌, ◌+◌, ◌-◌, ◌*◌, ◌/◌, ◌%◌, ◌<◌, ◌≤◌, ℕ, zero, suc, Bool, true, false, not, ◌==◌, nat_le, if◌then◌else◌, refl, sym, ap, ◌∙◌, mul_assoc, inl, inr, arith}
use Rattle.std.proofs.lemmas.Bool.{cases_lt}
use Rattle.std.proofs.lemmas.Bool.Decides.{nat_tests}
use Rattle.std.proofs.lemmas.Nat.{div-add-mod', div-mul-add, mod-mul-add, mod_below}
use Rattle.fixed_word.specs.declared.rounding.Rounding.{Rounding}
use Rattle.fixed_word.specs.declared.rounding.Rounding.TheVariants.{Down, Zero, Even}
use Rattle.fixed_kernel.specs.inside.Steps.{rounding_step}
use Rattle.fixed_decimal.specs.inside.Stepped.{moves_past, stepped}

abbrev pub one_where : Bool → ℕ
one_where b = if b then 1 else 0

times_more : (p d : ℕ) → (p + 1) * d ≡ p * d + d
times_more p d = omega arith

twice_low : (n d : ℕ) → 2 * (n % d) < d → (2 * n / d ≡ 2 * (n / d)) × (2 * n % d ≡ 2 * (n % d))
twice_low n d l =
    let s = div-add-mod' n d in
    let m = mul_assoc 2 (n / d) d in
    let e : 2 * n ≡ 2 * (n / d) * d + 2 * (n % d) = omega arith in
    (ap (λ x. x / d) e ∙ div-mul-add (2 * (n / d)) d (2 * (n % d)) l, ap (λ x. x % d) e ∙ mod-mul-add (2 * (n / d)) d (2 * (n % d)) l)

twice_high : (n d : ℕ) → 0 < d → d ≤ 2 * (n % d) → (2 * n / d ≡ 2 * (n / d) + 1) × (2 * n % d ≡ 2 * (n % d) - d)
twice_high n d h l =
    let s = div-add-mod' n d in
    let b = mod_below n d h in
    let m = mul_assoc 2 (n / d) d in
    let t = times_more (2 * (n / d)) d in
    let small : 2 * (n % d) - d < d = omega arith in
    let e : 2 * n ≡ (2 * (n / d) + 1) * d + (2 * (n % d) - d) = omega arith in
    (ap (λ x. x / d) e ∙ div-mul-add (2 * (n / d) + 1) d (2 * (n % d) - d) small, ap (λ x. x % d) e ∙ mod-mul-add (2 * (n / d) + 1) d (2 * (n % d) - d) small)

-- without a half behind it, and with one
step_low : (k : Rounding) (below : Bool) (q r d : ℕ) → 2 * r < d → one_where (moves_past k below (q % 2 == 1) false (not (2 * r == 0))) ≡ rounding_step k below q r d
step_low Down true q zero d l = refl
step_low Down true q (suc r) d l = grind (arith, nat_tests)
step_low Down false q r d l = refl
step_low Zero below q r d l = refl
step_low Even below q r d l = grind (arith, nat_tests)

step_high : (k : Rounding) (below : Bool) (q r d : ℕ) → 0 < d → d ≤ 2 * r → one_where (moves_past k below (q % 2 == 1) true (not (2 * r - d == 0))) ≡ rounding_step k below q r d
step_high Down true q zero d h l = absurd (omega arith)
step_high Down true q (suc r) d h l = refl
step_high Down false q r d h l = refl
step_high Zero below q r d h l = refl
step_high Even below q r d h l = grind (arith, nat_tests)

abbrev pub by_halves : Rounding → Bool → ℕ → ℕ → ℕ
by_halves k below h e = h / 2 + one_where (moves_past k below (h / 2 % 2 == 1) (h % 2 == 1) (not (e == 0)))

half_low : (q : ℕ) → (2 * q / 2 ≡ q) × (2 * q % 2 ≡ 0)
half_low q = (omega arith, omega arith)

half_high : (q : ℕ) → ((2 * q + 1) / 2 ≡ q) × ((2 * q + 1) % 2 ≡ 1)
half_high q = (omega arith, omega arith)

pub halved : (k : Rounding) (below : Bool) (n d : ℕ) → 0 < d → by_halves k below (2 * n / d) (2 * n % d) ≡ stepped k below n d
halved k below n d h = elim (cases_lt (2 * (n % d)) d) [
  | inl low ↦
      let t = twice_low n d low in
      let u = half_low (n / d) in
      rw (t.0, t.1, u.0, u.1) (ap (λ x. n / d + x) (step_low k below (n / d) (n % d) d low))
  | inr high ↦
      let t = twice_high n d h high in
      let u = half_high (n / d) in
      rw (t.0, t.1, u.0, u.1) (ap (λ x. n / d + x) (step_high k below (n / d) (n % d) d h high))
]

-- ---- whole numbers in front
step_parity : (k : Rounding) (below : Bool) (p q r d : ℕ) → p % 2 ≡ q % 2 → rounding_step k below p r d ≡ rounding_step k below q r d
step_parity Down true p q zero d e = refl
step_parity Down true p q (suc r) d e = refl
step_parity Down false p q r d e = refl
step_parity Zero below p q r d e = refl
step_parity Even below p q r d e = ap (λ x. if nat_le (2 * r + x) d then 0 else 1) e

in_front : (k : Rounding) (below : Bool) (u n d : ℕ) → 0 < d → stepped k below (u * d + n) d ≡ u + n / d + rounding_step k below (u + n / d) (n % d) d
in_front k below u n d h =
    let s = div-add-mod' n d in
    let b = mod_below n d h in
    let e : u * d + n ≡ (u + n / d) * d + n % d = omega arith in
    rw (e, div-mul-add (u + n / d) d (n % d) b, mod-mul-add (u + n / d) d (n % d) b) refl

-- a number in front moves the rounded quotient, where it is even or another as odd
pub moved : (k : Rounding) (below : Bool) (u v n d : ℕ) → 0 < d → u % 2 ≡ v % 2 → (m : ℕ) × (stepped k below (u * d + n) d ≡ u + m) × (stepped k below (v * d + n) d ≡ v + m)
moved k below u v n d h e =
    let p : (u + n / d) % 2 ≡ (v + n / d) % 2 = omega arith in
    let s = step_parity k below (v + n / d) (u + n / d) (n % d) d (sym p) in
    let a = in_front k below u n d h in
    let b = in_front k below v n d h in
    (n / d + rounding_step k below (u + n / d) (n % d) d, omega arith, omega (arith, s))
