use Rattle.std.proofs.Common.{◌-◌, ◌∙◌, arith}
use Rattle.fixed_elementary.proofs.Closing.{enclosed_is}
use Rattle.fixed_elementary.proofs.logarithms.enclosed_log2.Goals as goal

pub returns-then-bits-le32 : goal.returns-then-bits-le32
returns-then-bits-le32 c =
    let log = c.narrow_log.result in
    let few = c.requires.narrow c.if-bits-le32.true in
    enclosed_is c.args.places (62 - c.args.places) 14 c.args.a log.digits log.part c.from.result 62 (omega arith) (omega arith) (omega arith) (omega (arith, c.ranges.a)) (c.from.ensures ∙ c.narrow_units.ensures) c.narrow_log.ensures.value

pub returns-else-bits-le32 : goal.returns-else-bits-le32
returns-else-bits-le32 c =
    let log = c.broad_log.result in
    let few = c.requires.places in
    enclosed_is c.args.places (126 - c.args.places) 23 c.args.a log.digits log.part c.broad_units.result 126 (omega arith) (omega arith) (omega arith) (omega (arith, c.ranges.a)) c.broad_units.ensures c.broad_log.ensures.value
