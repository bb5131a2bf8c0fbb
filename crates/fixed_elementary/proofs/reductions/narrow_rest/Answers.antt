use Rattle.std.proofs.Common.{◌^◌, arith}
use Rattle.fixed_elementary.proofs.Closing.{narrow_rest_is, rest_small}
use Rattle.fixed_elementary.proofs.reductions.narrow_rest.Goals as goal

pub returns-clause-log : goal.returns-clause-log
returns-clause-log c =
    let square = c.high-half_square.ensures in
    narrow_rest_is c.args.rest c.high-half_square.result _ _ c.requires square.below square.above c.saturating_sub-exponent.ensures c.high.ensures.below c.high.ensures.above

pub returns-clause-most : goal.returns-clause-most
returns-clause-most c =
    let small = rest_small c.saturating_sub-exponent.result c.high.result 0xb8aa3b295c17f0bb (2 ^ 64) (omega arith) (omega arith) c.high.ensures.below in
    omega (arith, c.saturating_sub-exponent.ensures)
