use Rattle.std.proofs.Common.{◌≡◌, ◌+◌, ◌*◌, ◌^◌, ◌-ℤ◌, ℤ, pos, ap, ◌∙◌, arith}
use Rattle.std.specs.Float.{binary64}
use Rattle.std.proofs.lemmas.Int.{ints}
use Rattle.fixed_float.proofs.Halves.{difference_is, nearest_is, over}
use Rattle.fixed_float.proofs.nearest.held_f64.Goals as goal

pub returns : goal.returns
returns c =
    let n = c.args.number in
    let l = c.args.least in
    let g = c.args.frac in
    let same : pos ((2 ^ 52 + n) * 1) -ℤ pos ((2 ^ 52 + l) * 1) ≡ pos n -ℤ pos l = omega (arith, ints) in
    difference_is binary64 c.packed_f64.result c.packed_f64-2.result ((2 ^ 52 + n) * 1) ((2 ^ 52 + l) * 1) g c.packed_f64.ensures c.packed_f64-2.ensures
    ∙ ap (λ (z : ℤ). over binary64 z (2 ^ g)) same
    ∙ nearest_is binary64 (pos n -ℤ pos l) g
