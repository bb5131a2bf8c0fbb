use Rattle.std.proofs.Common.{◌+◌, ◌^◌, arith, refl}
use Rattle.fixed_elementary.proofs.Closing.{left_small, log_is_close, sum_small}
use Rattle.fixed_elementary.proofs.reductions.narrow_log.Goals as goal

pub narrow_rest-requires : goal.narrow_rest-requires
narrow_rest-requires c =
    let left = left_small (2 ^ 63) 1 (2 ^ 21) 3 c.narrow_reduced-reduced.result.mantissa (2 ^ 42 + 3) c.narrow_reduced-reduced.ensures.near refl (omega arith) in
    omega arith

pub overflow_add-result : goal.overflow_add-result
overflow_add-result c =
    let left = left_small (2 ^ 63) 1 (2 ^ 21) 3 c.narrow_reduced-reduced.result.mantissa (2 ^ 42 + 3) c.narrow_reduced-reduced.ensures.near refl (omega arith) in
    let sum = sum_small c.narrow_reduced-reduced.result.log c.narrow_rest.result _ c.narrow_reduced-reduced.result.mantissa (2 ^ 63) (2 ^ 42 + 3) (2 ^ 62) c.narrow_reduced-reduced.ensures.most c.narrow_rest.ensures.most refl left (omega arith) in
    omega arith

pub returns-clause-value : goal.returns-clause-value
returns-clause-value c =
    log_is_close 62 9 (2 ^ 63) c.whole-start.result.mantissa c.narrow_reduced-reduced.result.mantissa _ c.args.a c.whole-start.result.digits c.narrow_reduced-reduced.result.log c.narrow_rest.result 5 (omega arith) c.narrow_reduced-reduced.ensures.near.least refl c.whole-start.ensures.value c.narrow_reduced-reduced.ensures.log c.narrow_rest.ensures.log

pub returns-clause-digits : goal.returns-clause-digits
returns-clause-digits c = c.whole-start.ensures.digits

pub returns-clause-part : goal.returns-clause-part
returns-clause-part c =
    let left = left_small (2 ^ 63) 1 (2 ^ 21) 3 c.narrow_reduced-reduced.result.mantissa (2 ^ 42 + 3) c.narrow_reduced-reduced.ensures.near refl (omega arith) in
    sum_small c.narrow_reduced-reduced.result.log c.narrow_rest.result _ c.narrow_reduced-reduced.result.mantissa (2 ^ 63) (2 ^ 42 + 3) (2 ^ 62) c.narrow_reduced-reduced.ensures.most c.narrow_rest.ensures.most refl left (omega arith)
