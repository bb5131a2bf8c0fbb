use Rattle.std.proofs.Common.{◌≡◌, ◌^◌, ◌<◌, ◌-ℤ◌, ℤ, pos, neg_ℤ, nat_abs, refl, ap, ◌∙◌, arith}
use Rattle.std.specs.Int.{cast_signed, cast_unsigned, w128}
use Rattle.std.proofs.lemmas.Int.{ints}
use mir.Val.{SFits}
use Rattle.fixed_convert.specs.WholeNumber.{exact_floor}
use Rattle.fixed_convert.proofs.Cuts.{read_back}
use Rattle.fixed_convert.proofs.Rooms.{fits_wide, floor_size}
use Rattle.fixed_convert.proofs.multiples.ceil_at.Goals as goal

-- the number, and what the call answers for minus it
turned : (z : ℤ) → SFits w128 z → nat_abs z < 2 ^ 64 → cast_signed w128 (cast_unsigned w128 (pos 0 -ℤ cast_signed w128 (cast_unsigned w128 z))) ≡ neg_ℤ z
turned z f s =
    let n = read_back z z f refl in
    rw n (read_back (pos 0 -ℤ z) (neg_ℤ z) (fits_wide (pos 0 -ℤ z) (omega (arith, ints))) (omega (arith, ints)))

pub overflow_sub-result : goal.overflow_sub-result
overflow_sub-result c =
    let x = c.args.number in
    let e = c.floor_at.ensures ∙ ap (λ (y : ℤ). exact_floor y c.args.by) (turned x c.ranges.number c.requires.small) in
    let f = read_back c.floor_at.result (exact_floor (neg_ℤ x) c.args.by) (record { sfits = c.floor_at.type_inv }) e in
    let s = c.requires.small in
    let b = c.requires.by in
    let l = floor_size (neg_ℤ x) c.args.by (omega (arith, ints)) (omega arith) in
    rw f (fits_wide (pos 0 -ℤ exact_floor (neg_ℤ x) c.args.by) (omega (arith, ints)))

pub returns : goal.returns
returns c =
    let x = c.args.number in
    let e = c.floor_at.ensures ∙ ap (λ (y : ℤ). exact_floor y c.args.by) (turned x c.ranges.number c.requires.small) in
    let f = read_back c.floor_at.result (exact_floor (neg_ℤ x) c.args.by) (record { sfits = c.floor_at.type_inv }) e in
    let s = c.requires.small in
    let b = c.requires.by in
    let l = floor_size (neg_ℤ x) c.args.by (omega (arith, ints)) (omega arith) in
    rw f (read_back (pos 0 -ℤ exact_floor (neg_ℤ x) c.args.by) (neg_ℤ (exact_floor (neg_ℤ x) c.args.by)) (fits_wide (pos 0 -ℤ exact_floor (neg_ℤ x) c.args.by) (omega (arith, ints))) (omega (arith, ints)))
