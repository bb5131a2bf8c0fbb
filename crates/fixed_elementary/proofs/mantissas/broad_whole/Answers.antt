use Rattle.std.proofs.Common.{◌*◌, ◌^◌, arith}
use Rattle.fixed_elementary.proofs.Reading.{broad_is}
use Rattle.fixed_elementary.proofs.mantissas.broad_whole.Goals as goal

pub returns-clause-value : goal.returns-clause-value
returns-clause-value c =
    let d = c.whole-start.result.digits in
    let m = c.whole-start.result.mantissa in
    broad_is c.args.a d m c.from.result (c.from-2.result * 2 ^ 64) c.whole-start.ensures.value (omega (arith, c.from.ensures)) (omega (arith, c.from-2.ensures))
