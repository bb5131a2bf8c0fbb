use Rattle.std.proofs.Common.{◌-◌, ◌*◌, ◌/◌, ◌^◌, subst, arith}
use Rattle.fixed_elementary.specs.inside.Power.{IsPart}
use Rattle.fixed_elementary.proofs.Raised.{power_is}
use Rattle.fixed_elementary.proofs.exponentials.broad_power.Goals as goal

pub returns : goal.returns
returns c =
    let e = c.args.exponent in
    let f = c.args.places in
    let g = c.broad_groups-groups.result in
    let p = c.broad_exp2-mantissa.result in
    let part = subst (λ z. IsPart (2 ^ 126) (4 * g) (13 * g) z p) c.part_of.ensures.value c.broad_exp2-mantissa.ensures in
    let up = power_is f (4 * g - f) (4 * g) e 117 9 (13 * g) p (omega (arith, c.broad_groups-groups.ensures.least)) (omega (arith, c.requires.places, c.requires.bits, c.broad_groups-groups.ensures.most)) part in
    (p * 2 ^ (e / 2 ^ f) / 2 ^ 126, up, c.broad_in_bits.ensures)
