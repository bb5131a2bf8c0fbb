-- To the nearest: what is computed meets the equation, and nothing else does.
use Rattle.std.proofs.Common.{◌≡◌, ◌+◌, ◌*◌, ◌/◌, ◌%◌, ◌<◌, ◌≤◌, ℕ, suc, Bool, true, false, refl, arith}
use Rattle.std.specs.Prelude.{nat_le, if◌then◌else◌}
use Rattle.std.proofs.lemmas.Bool.Decides.{nat_tests}
use Rattle.std.proofs.lemmas.Nat.{div-add-mod', mod_below}
use Rattle.fixed_kernel.specs.Rounded.{nearest}

-- of magnitudes: n d lies at most half of d beside a
pub record IsNear (a d n : ℕ) : Type 0 where
  pub below : 2 * a ≤ 2 * (n * d) + d
  pub above : 2 * (n * d) ≤ 2 * a + d
  pub tie_below : 2 * a ≡ 2 * (n * d) + d → n % 2 ≡ 0
  pub tie_above : 2 * (n * d) ≡ 2 * a + d → n % 2 ≡ 0

next_even : (q : ℕ) → q % 2 ≡ 1 → suc q % 2 ≡ 0
next_even q h = omega arith

suc_product : (q d : ℕ) → suc q * d ≡ q * d + d
suc_product q d = omega arith

nearest_step : (a d : ℕ) (b : Bool) → 0 < d → nat_le (2 * (a % d) + a / d % 2) d ≡ b → IsNear a d (if b then a / d else suc (a / d))
nearest_step a d true h e =
    let c : 2 * (a % d) + a / d % 2 ≤ d = grind (arith, nat_tests) in
    let s = div-add-mod' a d in
    record { below = omega arith; above = omega arith; tie_below = λ x. omega arith; tie_above = λ x. absurd (omega arith) }
nearest_step a d false h e =
    let c : d < 2 * (a % d) + a / d % 2 = grind (arith, nat_tests) in
    let s = div-add-mod' a d in
    let b = mod_below a d h in
    let t = mod_below (a / d) 2 (omega arith) in
    let p = suc_product (a / d) d in
    record { below = omega arith; above = omega arith; tie_below = λ x. absurd (omega arith); tie_above = λ x. next_even (a / d) (omega arith) }

pub nearest_is : (a d : ℕ) → 0 < d → IsNear a d (nearest a d)
nearest_is a d h = nearest_step a d (nat_le (2 * (a % d) + a / d % 2) d) h refl
