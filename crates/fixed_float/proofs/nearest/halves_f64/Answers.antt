use Rattle.std.proofs.Common.{◌≡◌, ◌+◌, ◌*◌, ◌/◌, ◌%◌, ◌^◌, ◌+ℤ◌, ◌-ℤ◌, ℤ, pos, ap, ◌∙◌, arith, lit≤}
use Rattle.std.specs.Float.{binary64}
use Rattle.std.proofs.lemmas.Int.{ints}
use Rattle.fixed_float.proofs.Halves.{halves_are, nearest_is, over}
use Rattle.fixed_float.proofs.nearest.halves_f64.Goals as goal

pub returns : goal.returns
returns c =
    let n = c.args.number in
    let l = c.args.least in
    let g = c.args.frac in
    let u = 2 ^ 52 + n / 2 ^ 32 in
    let v = 2 ^ 52 + (l / 2 ^ 32 + 2 ^ 20) in
    let b = (2 ^ 52 + n % 2 ^ 32) * 1 in
    let same : pos (u * 2 ^ 32) -ℤ pos (v * 2 ^ 32) +ℤ pos b ≡ pos n -ℤ pos l = omega (arith, ints, c.requires.halved) in
    halves_are binary64 u v 32 b g (omega (arith, c.ranges.number.fits)) (omega (arith, c.requires.least)) (lit≤ tt) c.requires.frac
    c.packed_f64-upper.result c.packed_f64-centre.result c.packed_f64-lower.result c.packed_f64-upper.ensures c.packed_f64-centre.ensures c.packed_f64-lower.ensures
    ∙ ap (λ (z : ℤ). over binary64 z (2 ^ g)) same
    ∙ nearest_is binary64 (pos n -ℤ pos l) g
