use Rattle.std.proofs.Common.{◌+◌, ◌*◌, ◌^◌, arith, refl}
use Rattle.fixed_elementary.proofs.Closing.{left_small, log_is_close, sum_small}
use Rattle.fixed_elementary.proofs.reductions.broad_log.Goals as goal

pub broad_rest-requires : goal.broad_rest-requires
broad_rest-requires c =
    let left = left_small (2 ^ 127) (2 ^ 64) (2 ^ 42) 6 c.broad_reduced-reduced.result.mantissa (2 ^ 85 + 6 * 2 ^ 64) c.broad_reduced-reduced.ensures.near refl (omega arith) in
    omega arith

pub overflow_add-result : goal.overflow_add-result
overflow_add-result c =
    let left = left_small (2 ^ 127) (2 ^ 64) (2 ^ 42) 6 c.broad_reduced-reduced.result.mantissa (2 ^ 85 + 6 * 2 ^ 64) c.broad_reduced-reduced.ensures.near refl (omega arith) in
    let sum = sum_small c.broad_reduced-reduced.result.log c.broad_rest.result _ c.broad_reduced-reduced.result.mantissa (2 ^ 127) (2 ^ 85 + 6 * 2 ^ 64) (2 ^ 126) c.broad_reduced-reduced.ensures.most c.broad_rest.ensures.most refl left (omega arith) in
    omega arith

pub returns-clause-value : goal.returns-clause-value
returns-clause-value c =
    log_is_close 126 18 (2 ^ 127) c.broad_whole-start.result.mantissa c.broad_reduced-reduced.result.mantissa _ c.args.a c.broad_whole-start.result.digits c.broad_reduced-reduced.result.log c.broad_rest.result 5 (omega arith) c.broad_reduced-reduced.ensures.near.least refl c.broad_whole-start.ensures.value c.broad_reduced-reduced.ensures.log c.broad_rest.ensures.log

pub returns-clause-digits : goal.returns-clause-digits
returns-clause-digits c = c.broad_whole-start.ensures.digits

pub returns-clause-part : goal.returns-clause-part
returns-clause-part c =
    let left = left_small (2 ^ 127) (2 ^ 64) (2 ^ 42) 6 c.broad_reduced-reduced.result.mantissa (2 ^ 85 + 6 * 2 ^ 64) c.broad_reduced-reduced.ensures.near refl (omega arith) in
    sum_small c.broad_reduced-reduced.result.log c.broad_rest.result _ c.broad_reduced-reduced.result.mantissa (2 ^ 127) (2 ^ 85 + 6 * 2 ^ 64) (2 ^ 126) c.broad_reduced-reduced.ensures.most c.broad_rest.ensures.most refl left (omega arith)
