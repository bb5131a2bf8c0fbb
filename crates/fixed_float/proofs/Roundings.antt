-- Equal fractions are rounded alike, and a whole number is not moved.
use Rattle.std.proofs.Common.{◌≡◌, ◌+◌, ◌*◌, ◌/◌, ◌%◌, ◌<◌, ◌≤◌, ℕ, zero, suc, Bool, true, false, pos, refl, ap, sym, ◌∙◌, subst, arith, inl, inr, if◌then◌else◌, nat_le}
use native.Mathlib.Nat.{add-mul, mul-pos, mul_right_comm, zero-mul, lt_irrefl}
use Rattle.std.proofs.lemmas.Bool.{cases_lt}
use Rattle.std.proofs.lemmas.Bool.Decides.{nat_tests}
use Rattle.std.proofs.lemmas.Nat.{div-add-mod', mod_below}
use lib.Ieee.Nearest.{closest, closest_same, div_same}
use Rattle.fixed_word.specs.Format.{with_sign}
use Rattle.fixed_word.specs.declared.rounding.Rounding.{Rounding}
use Rattle.fixed_word.specs.declared.rounding.Rounding.TheVariants.{Down, Zero, Even}
use Rattle.fixed_kernel.specs.Rounded.{nearest, rounded}
use Rattle.fixed_kernel.specs.inside.Steps.{rounding_step}
use Rattle.fixed_float.proofs.Formats.{closest_eq, closest_gt, closest_lt}
use Rattle.fixed_kernel.proofs.Stepped.{stepped, stepped_small}
use Rattle.fixed_convert.proofs.Factors.{rounded_magnitude}

-- ---- to the nearest, as floats are rounded
nearest_step : (a d : ℕ) (b : Bool) → nat_le (2 * (a % d) + a / d % 2) d ≡ b → closest a d ≡ a / d + (if b then 0 else 1)
nearest_step a d true e =
    let c : 2 * (a % d) + a / d % 2 ≤ d = grind (arith, nat_tests) in
    elim (cases_lt (2 * (a % d)) d) [
      | inl l ↦ closest_lt a d l ∙ omega arith
      | inr g ↦ closest_eq a d (omega arith) ∙ omega arith
    ]
nearest_step a d false e =
    let c : d < 2 * (a % d) + a / d % 2 = grind (arith, nat_tests) in
    let o = mod_below (a / d) 2 (omega arith) in
    elim (cases_lt d (2 * (a % d))) [
      | inl l ↦ closest_gt a d l ∙ omega arith
      | inr g ↦ closest_eq a d (omega arith) ∙ omega arith
    ]

pub closest_nearest : (a d : ℕ) → closest a d ≡ nearest a d
closest_nearest a d = nearest_step a d (nat_le (2 * (a % d) + a / d % 2) d) refl ∙ either (nat_le (2 * (a % d) + a / d % 2) d)
  where
    either : (b : Bool) → a / d + (if b then 0 else 1) ≡ (if b then a / d else suc (a / d))
    either true = omega arith
    either false = omega arith

pub closest_stepped : (a d : ℕ) (below : Bool) → closest a d ≡ stepped Even below a d
closest_stepped a d below = nearest_step a d (nat_le (2 * (a % d) + a / d % 2) d) refl

-- ---- equal fractions
remainder_same : (a b c d : ℕ) → 0 < b → 0 < d → a * d ≡ c * b → a % b * d ≡ c % d * b
remainder_same a b c d B D h =
    let x : a / b * b * d + a % b * d ≡ a * d = sym (add-mul (a / b * b) (a % b) d) ∙ ap (λ (z : ℕ). z * d) (div-add-mod' a b) in
    let y : c / d * d * b + c % d * b ≡ c * b = sym (add-mul (c / d * d) (c % d) b) ∙ ap (λ (z : ℕ). z * b) (div-add-mod' c d) in
    let s : a / b * b * d ≡ c / d * d * b = mul_right_comm (a / b) b d ∙ ap (λ (z : ℕ). z * d * b) (div_same a b c d B D h) in
    omega arith

no_product : (s d e : ℕ) → 0 < d → 0 * e ≡ suc s * d → ⊥
no_product s d e D h = lt_irrefl 0 (subst (λ (x : ℕ). 0 < x) (sym h ∙ zero-mul e) (mul-pos (omega arith) D))

down_same : (q r b s d : ℕ) → 0 < b → 0 < d → r * d ≡ s * b → rounding_step Down true q r b ≡ rounding_step Down true q s d
down_same q zero b zero d B D h = refl
down_same q zero b (suc s) d B D h = absurd (no_product s b d B h)
down_same q (suc r) b zero d B D h = absurd (no_product r d b D (sym h))
down_same q (suc r) b (suc s) d B D h = refl

pub stepped_same : (k : Rounding) (below : Bool) (a b c d : ℕ) → 0 < b → 0 < d → a * d ≡ c * b → stepped k below a b ≡ stepped k below c d
stepped_same Down true a b c d B D h =
    ap (λ (q : ℕ). q + rounding_step Down true q (a % b) b) (div_same a b c d B D h)
    ∙ ap (λ (s : ℕ). c / d + s) (down_same (c / d) (a % b) b (c % d) d B D (remainder_same a b c d B D h))
stepped_same Down false a b c d B D h = ap (λ (q : ℕ). q + 0) (div_same a b c d B D h)
stepped_same Zero below a b c d B D h = ap (λ (q : ℕ). q + 0) (div_same a b c d B D h)
stepped_same Even below a b c d B D h = sym (closest_stepped a b below) ∙ closest_same a b c d B D h ∙ closest_stepped c d below

-- ---- with a sign
pub rounded_same : (k : Rounding) (b : Bool) (m d n e : ℕ) → 0 < d → 0 < e → m * e ≡ n * d → rounded (with_sign b m) (pos d) k ≡ rounded (with_sign b n) (pos e) k
rounded_same k b m d n e D E h = rounded_magnitude k b m d D ∙ ap (with_sign b) (stepped_same k b m d n e D E h) ∙ sym (rounded_magnitude k b n e E)

stepped_one : (k : Rounding) (b : Bool) (n : ℕ) → stepped k b n 1 ≡ n
stepped_one k b n = omega (arith, stepped_small k b n 1 (omega arith))

pub rounded_whole : (k : Rounding) (b : Bool) (n d : ℕ) → 0 < d → rounded (with_sign b (n * d)) (pos d) k ≡ with_sign b n
rounded_whole k b n d D =
    let one : 0 < 1 = omega arith in
    rounded_same k b (n * d) d n 1 D one (omega arith) ∙ rounded_magnitude k b n 1 one ∙ ap (with_sign b) (stepped_one k b n)
