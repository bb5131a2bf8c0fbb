use Rattle.std.proofs.Common.{◌-◌, ◌*◌, ◌/◌, ◌^◌, arith, rules}
use Rattle.fixed_elementary.proofs.Powers.{part_all, part_begun, part_turned}
use Rattle.fixed_elementary.proofs.exponentials.broad_exp2.Goals as goal

pub loop-i-init : goal.loop-i-init
loop-i-init c = part_begun (2 ^ 126) c.args.part 4 13 c.args.groups (omega arith) c.requires.part

pub loop-i-preserved : goal.loop-i-preserved
loop-i-preserved c =
    let x = c.args.part in
    let g = c.args.groups in
    let i = c.loop-i.i in
    part_turned (2 ^ 126) x 4 13 g i c.broad_digits.result c.broad_turn-power.result (search rules) c.broad_digits.ensures (c.broad_turn-power.ensures (13 * i) (x / 2 ^ (4 * (g - i))) c.loop-i.invariant)

pub returns : goal.returns
returns c = part_all (2 ^ 126) c.args.part 4 13 c.args.groups c.loop-i.i c.loop-i.power (search rules) c.loop-i.invariant
