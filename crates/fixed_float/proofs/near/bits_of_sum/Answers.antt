use Rattle.std.proofs.Common.{◌≡◌, ◌+◌, ◌-◌, ◌*◌, ◌%◌, ◌^◌, ◌<◌, ◌≤◌, ◌-ℤ◌, ℕ, suc, Bool, true, false, pos, T, not, ap, sym, ◌∙◌, subst, arith, if◌then◌else◌}
use Rattle.std.specs.Prelude.{Some}
use Rattle.std.specs.Bool.{passes}
use Rattle.std.specs.Float.{Float, binary64}
use Rattle.std.proofs.lemmas.Int.{ints}
use lib.Ieee.{add, fits, mul, nan_bits, of_bits}
use Rattle.fixed_word.specs.Format.{with_sign}
use Rattle.fixed_float.specs.inside.Small.{IsSmall}
use Rattle.fixed_float.proofs.Fields.{packed_not_nan}
use Rattle.fixed_float.proofs.Quick.{IsMoved, moved_by_sum}
use Rattle.fixed_float.proofs.near.bits_of_sum.Goals as goal

power_is : (g : ℕ) → g ≤ 64 → (1023 + g) * 4503599627370496 % 18446744073709551616 ≡ suc (1022 + g) * 2 ^ 52 + 0
power_is g G = omega arith

moved_as : (x : Float) → T (fits binary64 x) → (g : ℕ) → g ≤ 64 → IsSmall x g
    → IsMoved x g (add binary64 (mul binary64 x (of_bits binary64 ((1023 + g) * 4503599627370496 % 18446744073709551616))) (of_bits binary64 4843621399236968448))
moved_as x fit g G h =
    subst (λ (z : ℕ). IsMoved x g (add binary64 (mul binary64 x (of_bits binary64 z)) (of_bits binary64 4843621399236968448))) (sym (power_is g G)) (moved_by_sum x fit g G h)

below_half : (s : Bool) (n c : ℕ) → n ≡ (if s then 4843621399236968448 - c else 4843621399236968448 + c) → c ≤ 2 ^ 51 → n < 2 ^ 63
below_half true n c e h = omega arith
below_half false n c e h = omega arith

difference : (s : Bool) (n c : ℕ) → n ≡ (if s then 4843621399236968448 - c else 4843621399236968448 + c) → c ≤ 2 ^ 51 → pos n -ℤ pos 4843621399236968448 ≡ with_sign s c
difference true n c e h = omega (arith, ints)
difference false n c e h = omega (arith, ints)

pub float_from_bits-units : goal.float_from_bits-units
float_from_bits-units c = subst (λ (b : ℕ). T (not (nan_bits binary64 b))) (sym (power_is c.args.frac c.requires.frac)) (packed_not_nan binary64 (1022 + c.args.frac) 0 (omega (arith, c.requires.frac)) (omega arith))

pub float_to_bits-result : goal.float_to_bits-result
float_to_bits-result c = (moved_as c.args.x (passes _ c.well_formed.0.1) c.args.frac c.requires.frac c.requires.small).number

pub returns-clause-units : goal.returns-clause-units
returns-clause-units c =
    let m = moved_as c.args.x (passes _ c.well_formed.0.1) c.args.frac c.requires.frac c.requires.small in
    m.row ∙ ap Some (sym (difference m.below _ m.size m.bits m.small))

pub returns-clause-bound : goal.returns-clause-bound
returns-clause-bound c =
    let m = moved_as c.args.x (passes _ c.well_formed.0.1) c.args.frac c.requires.frac c.requires.small in
    below_half m.below _ m.size m.bits m.small
