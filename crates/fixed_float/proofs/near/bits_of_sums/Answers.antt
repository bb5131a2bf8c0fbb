use Rattle.std.proofs.Common.{◌≡◌, ◌+◌, ◌-◌, ◌*◌, ◌/◌, ◌%◌, ◌^◌, ◌≤◌, ◌+ℤ◌, ◌-ℤ◌, ◌*ℤ◌, ℕ, suc, Bool, true, false, pos, T, not, ap, sym, ◌∙◌, subst, arith}
use Rattle.std.specs.Prelude.{Some}
use Rattle.std.specs.Bool.{passes}
use Rattle.std.specs.Float.{Float, binary64}
use Rattle.std.proofs.lemmas.Int.{ints}
use lib.Ieee.{fits, mul, nan_bits, of_bits}
use Rattle.fixed_word.specs.Format.{Congruent, with_sign}
use Rattle.fixed_float.specs.inside.Small.{IsMedium}
use Rattle.fixed_float.proofs.Fields.{packed_not_nan}
use Rattle.fixed_float.proofs.Quick.{moved_from}
use Rattle.fixed_float.proofs.TwoSums.{split_by_sums, IsSplit}
use Rattle.fixed_float.proofs.near.bits_of_sums.Goals as goal

power_is : (g : ℕ) → g ≤ 64 → (1023 + g) * 4503599627370496 % 18446744073709551616 ≡ suc (1022 + g) * 2 ^ 52 + 0
power_is g G = omega arith

split_as : (x : Float) (fit : T (fits binary64 x)) (g : ℕ) → g ≤ 64 → IsMedium x g → IsSplit x g (mul binary64 x (of_bits binary64 ((1023 + g) * 4503599627370496 % 18446744073709551616)))
split_as x fit g G h = subst (λ (z : ℕ). IsSplit x g (mul binary64 x (of_bits binary64 z))) (sym (power_is g G)) (split_by_sums x fit g G h)

alike_of : (s b : Bool) (t r u l : ℕ) → t ≤ 2 ^ 50 + 1 → r ≤ 2 ^ 50 + 1 → u ≡ 1106 * 2 ^ 52 + moved_from s t → l ≡ 1074 * 2 ^ 52 + moved_from b r
    → Congruent (2 ^ 64) (pos ((u * 2 ^ 32 + l + (2 ^ 64 - 0x4338_0000_0000_0000)) % 2 ^ 64)) (with_sign s (t * 2 ^ 32) +ℤ with_sign b r)
alike_of s b t r u l T R e f = (pos 1161297921 -ℤ pos ((u * 2 ^ 32 + l + (2 ^ 64 - 0x4338_0000_0000_0000)) / 2 ^ 64), by s b e f)
  where
    by : (s b : Bool) → u ≡ 1106 * 2 ^ 52 + moved_from s t → l ≡ 1074 * 2 ^ 52 + moved_from b r
        → pos ((u * 2 ^ 32 + l + (2 ^ 64 - 0x4338_0000_0000_0000)) % 2 ^ 64) ≡ with_sign s (t * 2 ^ 32) +ℤ with_sign b r +ℤ (pos 1161297921 -ℤ pos ((u * 2 ^ 32 + l + (2 ^ 64 - 0x4338_0000_0000_0000)) / 2 ^ 64)) *ℤ pos (2 ^ 64)
    by true true e f = omega (arith, ints, T, R)
    by true false e f = omega (arith, ints, T, R)
    by false true e f = omega (arith, ints, T, R)
    by false false e f = omega (arith, ints, T, R)

pub float_from_bits-units : goal.float_from_bits-units
float_from_bits-units c = subst (λ (b : ℕ). T (not (nan_bits binary64 b))) (sym (power_is c.args.frac c.requires.frac)) (packed_not_nan binary64 (1022 + c.args.frac) 0 (omega (arith, c.requires.frac)) (omega arith))

pub float_to_bits-upper : goal.float_to_bits-upper
float_to_bits-upper c = (split_as c.args.x (passes _ c.well_formed.0.1) c.args.frac c.requires.frac c.requires.medium).sums.upper_number

pub float_to_bits-lower : goal.float_to_bits-lower
float_to_bits-lower c = (split_as c.args.x (passes _ c.well_formed.0.1) c.args.frac c.requires.frac c.requires.medium).sums.lower_number

pub returns : goal.returns
returns c =
    let m = split_as c.args.x (passes _ c.well_formed.0.1) c.args.frac c.requires.frac c.requires.medium in
    let a = m.sums in
    record {
      whole = with_sign m.sign (a.high * 2 ^ 32) +ℤ with_sign a.below a.low;
      row = m.row ∙ ap Some a.row;
      alike = subst (λ (z : ℕ). Congruent (2 ^ 64) (pos z) (with_sign m.sign (a.high * 2 ^ 32) +ℤ with_sign a.below a.low)) (sym c.joined.ensures) (alike_of m.sign a.below a.high a.low _ _ a.high_small a.low_small a.upper_bits a.lower_bits);
    }
