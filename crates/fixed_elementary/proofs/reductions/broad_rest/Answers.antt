use Rattle.std.proofs.Common.{◌^◌, arith}
use Rattle.fixed_elementary.proofs.Closing.{broad_rest_is, rest_small}
use Rattle.fixed_elementary.proofs.reductions.broad_rest.Goals as goal

pub returns-clause-log : goal.returns-clause-log
returns-clause-log c =
    let square = c.product-half_square.ensures in
    let all = c.product.ensures in
    broad_rest_is c.args.rest _ _ _ c.requires (omega arith) (omega arith) c.saturating_sub-exponent.ensures (omega arith) (omega arith)

pub returns-clause-most : goal.returns-clause-most
returns-clause-most c =
    let all = c.product.ensures in
    let small = rest_small c.saturating_sub-exponent.result c.product.result.high 0xb8aa3b295c17f0bbbe87fed0691d3e88 (2 ^ 128) (omega arith) (omega arith) (omega arith) in
    omega (arith, c.saturating_sub-exponent.ensures)
