use Rattle.std.proofs.Common.{◌≡◌, ◌+◌, ◌*◌, ◌/◌, ◌%◌, ◌^◌, ◌+ℤ◌, ◌-ℤ◌, ℤ, pos, ap, ◌∙◌, arith, lit≤}
use Rattle.std.specs.Float.{binary32}
use Rattle.std.proofs.lemmas.Int.{ints}
use Rattle.fixed_float.proofs.Halves.{halves_are, nearest_is, over}
use Rattle.fixed_float.proofs.nearest.halves_f32.Goals as goal

pub returns : goal.returns
returns c =
    let n = c.args.number in
    let l = c.args.least in
    let g = c.args.frac in
    let u = 2 ^ 23 + n / 2 ^ 16 in
    let v = 2 ^ 23 + (l / 2 ^ 16 + 2 ^ 7) in
    let b = (2 ^ 23 + n % 2 ^ 16) * 1 in
    let same : pos (u * 2 ^ 16) -ℤ pos (v * 2 ^ 16) +ℤ pos b ≡ pos n -ℤ pos l = omega (arith, ints, c.requires.halved) in
    halves_are binary32 u v 16 b g (omega (arith, c.ranges.number.fits)) (omega (arith, c.requires.least)) (lit≤ tt) c.requires.frac
    c.packed_f32-upper.result c.packed_f32-centre.result c.packed_f32-lower.result c.packed_f32-upper.ensures c.packed_f32-centre.ensures c.packed_f32-lower.ensures
    ∙ ap (λ (z : ℤ). over binary32 z (2 ^ g)) same
    ∙ nearest_is binary32 (pos n -ℤ pos l) g
