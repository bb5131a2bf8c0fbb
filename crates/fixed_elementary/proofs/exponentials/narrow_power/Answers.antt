use Rattle.std.proofs.Common.{◌-◌, ◌*◌, ◌/◌, ◌^◌, subst, arith}
use Rattle.fixed_elementary.specs.inside.Power.{IsPart}
use Rattle.fixed_elementary.proofs.Raised.{power_is}
use Rattle.fixed_elementary.proofs.exponentials.narrow_power.Goals as goal

pub returns : goal.returns
returns c =
    let e = c.args.exponent in
    let f = c.args.places in
    let g = c.narrow_groups-groups.result in
    let p = c.narrow_exp2-mantissa.result in
    let part = subst (λ z. IsPart (2 ^ 62) (8 * g) (2 * g) z p) c.part_of.ensures.value c.narrow_exp2-mantissa.ensures in
    let up = power_is f (8 * g - f) (8 * g) e 54 8 (2 * g) p (omega (arith, c.narrow_groups-groups.ensures.least)) (omega (arith, c.requires.places, c.requires.bits, c.narrow_groups-groups.ensures.most)) part in
    (p * 2 ^ (e / 2 ^ f) / 2 ^ 62, up, c.narrow_in_bits.ensures)
