use Rattle.std.proofs.Common.{◌+◌, Some, ap, ◌∙◌}
use Rattle.fixed_decimal.specs.Decimal.{lead}
use Rattle.fixed_decimal.specs.declared.error.DecimalError.TheVariants.{InvalidDigit}
use Rattle.fixed_decimal.proofs.Points.{byte_is, fault_here, lead_here, point_clear, point_other, point_seen}
use Rattle.fixed_decimal.proofs.numeral.point_of.Goals as goal

pub returns-then-bytes-end-eq46 : goal.returns-then-bytes-end-eq46
returns-then-bytes-end-eq46 c =
    let w = c.args.before + lead c.args.bytes.now in
    fault_here w c.args.bytes.now c.digits_end-point.result c.part_end-end.result c.digits_end-point.ensures.end c.part_end-end.ensures.end c.if-end-bytes.true
    ∙ ap Some (point_seen w _ c.if-bytes-end-eq46.true)

pub returns-else-bytes-end-eq46 : goal.returns-else-bytes-end-eq46
returns-else-bytes-end-eq46 c =
    let w = c.args.before + lead c.args.bytes.now in
    let here = lead_here c.args.bytes.now c.digits_end-point.result c.part_end-end.result c.digits_end-point.ensures.end c.part_end-end.ensures.end c.if-end-bytes.true c.if-bytes-end-eq46.false in
    fault_here w c.args.bytes.now c.digits_end-point.result c.part_end-end.result c.digits_end-point.ensures.end c.part_end-end.ensures.end c.if-end-bytes.true
    ∙ ap Some (point_other w _ c.if-bytes-end-eq46.false)
    ∙ ap (λ n. Some (InvalidDigit (c.args.before + n))) here

pub returns-else-end-point : goal.returns-else-end-point
returns-else-end-point c =
    point_clear c.args.bytes.now c.digits_end-point.result c.part_end-end.result c.digits_end-point.ensures.end c.part_end-end.ensures.end c.if-end-bytes.false
    (λ z. c.if-end-point.false (z ∙ byte_is c.digits_end-point.result c.part_end-end.result))
