use Rattle.std.proofs.Common.{◌≡◌, ◌+◌, ◌-◌, ◌*◌, ◌%◌, ◌^◌, ◌≤◌, ℕ, suc, T, not, sym, ◌∙◌, subst, arith}
use Rattle.std.specs.Bool.{passes}
use Rattle.std.specs.Float.{binary64}
use lib.Ieee.{le, nan_bits, of_bits}
use Rattle.fixed_float.proofs.Fields.{packed_not_nan}
use Rattle.fixed_float.proofs.Quick.{small_by_larger}
use Rattle.fixed_float.proofs.near.is_near.Goals as goal

bound_is : (g : ℕ) → g ≤ 64 → (1073 - g) * 4503599627370496 % 18446744073709551616 ≡ suc (1072 - g) * 2 ^ 52 + 0
bound_is g G = omega arith

pub float_from_bits-result : goal.float_from_bits-result
float_from_bits-result g c = subst (λ (b : ℕ). T (not (nan_bits binary64 b))) (sym (bound_is c.args.frac c.requires)) (packed_not_nan binary64 (1072 - c.args.frac) 0 (omega arith) (omega arith))

pub returns-else-BITS-le32-clause-small : goal.returns-else-BITS-le32-clause-small
returns-else-BITS-le32-clause-small g c = λ h.
    let k = c.args.frac in
    let x = c.args.x in
    small_by_larger x (passes _ c.well_formed.0.1) k c.requires ((λ i. le (sym c.larger.ensures i) (of_bits binary64 (sym (bound_is k c.requires) i))) ∙ h)
