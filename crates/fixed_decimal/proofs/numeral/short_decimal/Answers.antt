use Rattle.fixed_decimal.proofs.Shorts.{point_short, whole_short}
use Rattle.fixed_decimal.proofs.numeral.short_decimal.Goals as goal

pub returns-then-point-gt0 : goal.returns-then-point-gt0
returns-then-point-gt0 c =
    let w = c.run_from-whole.ensures in
    whole_short c.args.bytes.now c.run_from-whole.result.1 c.run_from-whole.result.0 w.end c.if-point-bytes.true c.if-point-gt0.true c.if-bytes-gt-PART.false w.small w.value

pub returns : goal.returns
returns c =
    let w = c.run_from-whole.ensures in
    let v = c.run_from-value.ensures in
    point_short c.args.bytes.now c.run_from-whole.result.1 c.run_from-whole.result.0 c.run_from-value.result.1 c.run_from-value.result.0 w.end c.if-bytes-point-ne46.false v.end c.if-end-bytes.false v.within c.if-end-lt2.false c.if-bytes-gt-PART.false w.value v.value v.small
