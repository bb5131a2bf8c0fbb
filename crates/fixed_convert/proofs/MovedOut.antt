-- Numbers that are moved up past a width.
use Rattle.std.proofs.Common.{◌≡◌, ◌-◌, ◌^◌, ◌<◌, ◌≤◌, ◌<ℤ◌, ◌+ℤ◌, ◌*ℤ◌, ℕ, ℤ, zero, suc, Bool, true, false, pos, negsuc, sym, ◌∙◌, arith}
use Rattle.std.proofs.lemmas.Int.{ints}
use Rattle.std.proofs.lemmas.Nat.{mul-le, pow_pos}
use Rattle.std.proofs.Math.Nat.{pow-le-pow_right}
use Rattle.fixed_word.specs.declared.outcome.Side.{Side}
use Rattle.fixed_word.specs.declared.outcome.Side.TheVariants.{Fits, Above, Below}
use Rattle.fixed_word.specs.Format.{IsWidth, highest, lowest, wrap}
use Rattle.fixed_word.specs.Standing.{side_of}
use Rattle.fixed_word.proofs.Sides.{highest_sign, lowest_sign, side_above, side_below, side_fits}
use Rattle.fixed_word.proofs.Wraps.{double, width_pos, wrap_unique}
use Rattle.fixed_convert.proofs.Moves.{times_split}

-- no bit is left
pub out_wrap : (s : Bool) (n k : ℕ) (x : ℤ) → IsWidth n → n ≤ k → pos 0 ≡ wrap s n (x *ℤ pos (2 ^ k))
out_wrap s n k x w l =
    let a = lowest_sign s n in
    let b = highest_sign s n in
    let e = times_split x n k l in
    sym (wrap_unique s n (x *ℤ pos (2 ^ k)) (pos 0) (width_pos n w) (a, b) (x *ℤ pos (2 ^ (k - n)), omega (arith, ints)))

-- the ends of a range lie within its number of numbers
ends : (s : Bool) (n : ℕ) → 0 < n → (highest s n <ℤ pos (2 ^ n)) × (pos 0 <ℤ (lowest s n +ℤ pos (2 ^ n)))
ends true n h =
    let d = double n h in
    let p = pow_pos (n - 1) in
    (omega (arith, ints), omega (arith, ints))
ends false n h =
    let p = pow_pos n in
    (omega (arith, ints), omega (arith, ints))

pub out_side : (s : Bool) (n k : ℕ) (x : ℤ) (side : Side) → IsWidth n → n ≤ k → (x ≡ pos 0 → side ≡ Fits) → (x <ℤ pos 0 → side ≡ Below) → (pos 0 <ℤ x → side ≡ Above) → side ≡ side_of s n (x *ℤ pos (2 ^ k))
out_side s n k (pos zero) side w l z b a =
    let u = lowest_sign s n in
    let v = highest_sign s n in
    z (omega (arith, ints)) ∙ sym (side_fits s n (pos 0 *ℤ pos (2 ^ k)) (omega (arith, ints)) (omega (arith, ints)))
out_side s n k (pos (suc m)) side w l z b a =
    let e = ends s n (width_pos n w) in
    let u = e.0 in
    let p = pow-le-pow_right {n = 2} (omega arith) {i = n} {j = k} l in
    let q = mul-le 1 (2 ^ n) (suc m) (2 ^ k) (omega arith) p in
    a (omega (arith, ints)) ∙ sym (side_above s n (pos (suc m) *ℤ pos (2 ^ k)) (omega (arith, ints)))
out_side s n k (negsuc m) side w l z b a =
    let e = ends s n (width_pos n w) in
    let u = e.1 in
    let p = pow-le-pow_right {n = 2} (omega arith) {i = n} {j = k} l in
    let q = mul-le 1 (2 ^ n) (suc m) (2 ^ k) (omega arith) p in
    b (omega (arith, ints)) ∙ sym (side_below s n (negsuc m *ℤ pos (2 ^ k)) (omega (arith, ints)))
