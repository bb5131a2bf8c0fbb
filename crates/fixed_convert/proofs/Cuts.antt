-- What a word keeps of an integer of 128 bits, and where the integer lies by it.
use Rattle.std.proofs.Common.{◌≡◌, ◌≢◌, ◌%◌, ◌^◌, ◌<◌, ◌≤◌, ◌≤ℤ◌, ◌<ℤ◌, ℕ, ℤ, Bool, true, false, pos, ap, sym, ◌∙◌, arith}
use Rattle.std.specs.Int.Signed.{lt_z}
use Rattle.std.specs.Int.{cast_signed, cast_unsigned, w128}
use Rattle.std.proofs.lemmas.Int.{by_lt_z, ints, to_z-of_z}
use mir.Val.{SFits}
use Rattle.fixed_word.specs.declared.outcome.Side.TheVariants.{Fits, Above, Below}
use Rattle.fixed_word.specs.Format.{IsWidth, InRange, highest, lowest, wrap}
use Rattle.fixed_word.specs.Standing.{side_of}
use Rattle.fixed_word.proofs.Casts.{low_bits}
use Rattle.fixed_word.proofs.Integers.{of_bits}
use Rattle.fixed_word.proofs.Sides.{highest_sign, lowest_sign, side_above, side_below, side_fits}
use Rattle.fixed_word.proofs.Wraps.{width_pos, wrap_in_range, wrap_same}

pub cut_wide : (n : ℕ) (z : ℤ) (u : ℕ) → SFits w128 z → 0 < n → n ≤ 128 → u ≡ cast_unsigned w128 (cast_signed w128 (cast_unsigned w128 z)) → pos (u % 2 ^ n) ≡ wrap false n z
cut_wide n z u f h l e =
    let t : u ≡ cast_unsigned w128 z = e ∙ ap (cast_unsigned w128) (to_z-of_z w128 z f) in
    low_bits n u h ∙ ap (λ (i : ℕ). wrap false n (pos i)) t ∙ of_bits w128 false n z f h l

pub kept_fits : (s : Bool) (n : ℕ) (x v : ℤ) → IsWidth n → v ≡ wrap s n x → v ≡ x → side_of s n x ≡ Fits
kept_fits s n x v w k e =
    let r : InRange s n x = rw (sym e ∙ k) (wrap_in_range s n x (width_pos n w)) in
    side_fits s n x r.0 r.1

pub lost_below : (s : Bool) (n : ℕ) (x v : ℤ) → IsWidth n → v ≡ wrap s n x → v ≢ x → x <ℤ pos 0 → side_of s n x ≡ Below
lost_below s n x v w k d l =
    let h = highest_sign s n in
    by_lt_z x (lowest s n)
    (λ b. side_below s n x b)
    (λ b. absurd (d (k ∙ wrap_same s n x (width_pos n w) (b, omega (arith, ints)))))

pub lost_above : (s : Bool) (n : ℕ) (x v : ℤ) → IsWidth n → v ≡ wrap s n x → v ≢ x → pos 0 ≤ℤ x → side_of s n x ≡ Above
lost_above s n x v w k d l =
    let h = lowest_sign s n in
    by_lt_z (highest s n) x
    (λ b. side_above s n x b)
    (λ b. absurd (d (k ∙ wrap_same s n x (width_pos n w) (omega (arith, ints), b))))

-- an integer of 128 bits, read back
pub read_back : (z y : ℤ) → SFits w128 z → z ≡ y → cast_signed w128 (cast_unsigned w128 z) ≡ y
read_back z y f e = to_z-of_z w128 z f ∙ e

pub is_below : (z : ℤ) → SFits w128 z → lt_z (cast_signed w128 (cast_unsigned w128 z)) (pos 0) ≡ true → z <ℤ pos 0
is_below z f e =
    let t = to_z-of_z w128 z f in
    let u : lt_z z (pos 0) ≡ true = rw t at e in
    grind (arith, ints)

pub is_from_zero : (z : ℤ) → SFits w128 z → lt_z (cast_signed w128 (cast_unsigned w128 z)) (pos 0) ≡ false → pos 0 ≤ℤ z
is_from_zero z f e =
    let t = to_z-of_z w128 z f in
    let u : lt_z z (pos 0) ≡ false = rw t at e in
    grind (arith, ints)
