-- Numbers that are floats exactly.
use Rattle.std.proofs.Common.{◌≡◌, ◌+◌, ◌-◌, ◌*◌, ◌^◌, ◌<◌, ◌≤◌, ℕ, ℤ, suc, Bool, true, false, pos, negsuc, ap, sym, ◌∙◌, arith, Some}
use Rattle.std.specs.Prelude.{unsigned_abs}
use native.Mathlib.Nat.{lt_of_lt_of_le, mul_assoc}
use lib.Pow.{pow-add, pow_pos, pow_mono, shl_lt}
use Rattle.std.specs.Float.{Format}
use lib.Ieee.{emax, low, prec, round}
use lib.Ieee.Exact.{HasValue, round_exact}
use lib.Ieee.Fits.{reach}
use Rattle.fixed_word.specs.declared.rounding.Rounding.{Rounding}
use Rattle.fixed_float.specs.Rows.{nearest_float, units_of_float}
use Rattle.fixed_float.proofs.Formats.{least_in}
use Rattle.fixed_float.proofs.Rows.{row_of_whole}

exact : (f : Format) (b : Bool) (n g : ℕ) → n < 2 ^ prec f → g ≤ 64 → HasValue (round f b n (2 ^ g)) b n (2 ^ g)
exact f b n g N G =
    let j = low f - g in
    let e : n * 2 ^ low f ≡ n * 2 ^ j * 2 ^ g =
    ap (λ (z : ℕ). n * z) (ap (λ (z : ℕ). 2 ^ z) {x = low f} {y = j + g} (omega (arith, (least_in f).0)) ∙ pow-add 2 j g) ∙ sym (mul_assoc n (2 ^ j) (2 ^ g)) in
    let l : n * 2 ^ j < 2 ^ (low f + suc (emax f)) = lt_of_lt_of_le (shl_lt (prec f) j N) (pow_mono (omega (arith, reach f))) in
    round_exact f b n (2 ^ g) n j (pow_pos g) N l e

pub exact_back : (f : Format) (a : ℤ) (g : ℕ) (r : Rounding) → unsigned_abs a < 2 ^ prec f → g ≤ 64 → units_of_float (nearest_float f a g) g r ≡ Some a
exact_back f (pos n) g r N G = row_of_whole (round f false n (2 ^ g)) false n g r (exact f false n g N G)
exact_back f (negsuc n) g r N G = row_of_whole (round f true (suc n) (2 ^ g)) true (suc n) g r (exact f true (suc n) g N G)
