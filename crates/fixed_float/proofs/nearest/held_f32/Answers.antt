use Rattle.std.proofs.Common.{◌≡◌, ◌+◌, ◌*◌, ◌^◌, ◌-ℤ◌, ℤ, pos, ap, ◌∙◌, arith}
use Rattle.std.specs.Float.{binary32}
use Rattle.std.proofs.lemmas.Int.{ints}
use Rattle.fixed_float.proofs.Halves.{difference_is, nearest_is, over}
use Rattle.fixed_float.proofs.nearest.held_f32.Goals as goal

pub returns : goal.returns
returns c =
    let n = c.args.number in
    let l = c.args.least in
    let g = c.args.frac in
    let same : pos ((2 ^ 23 + n) * 1) -ℤ pos ((2 ^ 23 + l) * 1) ≡ pos n -ℤ pos l = omega (arith, ints) in
    difference_is binary32 c.packed_f32.result c.packed_f32-2.result ((2 ^ 23 + n) * 1) ((2 ^ 23 + l) * 1) g c.packed_f32.ensures c.packed_f32-2.ensures
    ∙ ap (λ (z : ℤ). over binary32 z (2 ^ g)) same
    ∙ nearest_is binary32 (pos n -ℤ pos l) g
