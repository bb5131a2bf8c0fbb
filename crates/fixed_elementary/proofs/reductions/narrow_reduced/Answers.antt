use Rattle.std.proofs.Common.{◌*◌, ◌^◌, ◌≡◌, ℕ, arith, subst}
use Rattle.fixed_elementary.proofs.Closing.{begun_near}
use Rattle.fixed_elementary.proofs.Reduced.{log_most, over_itself, over_next}
use Rattle.fixed_elementary.specs.inside.Reduced.{IsNearOne, IsOver}
use Rattle.fixed_elementary.proofs.reductions.narrow_reduced.Goals as goal

pub loop-group-init : goal.loop-group-init
loop-group-init c = (begun_near (2 ^ 63) 1 c.args.mantissa c.requires (omega arith), over_itself 62 c.args.mantissa)

pub overflow_add-part : goal.overflow_add-part
overflow_add-part c =
    let next = c.narrow_step-next.ensures in
    let over = over_next 62 c.loop-group.group c.args.mantissa c.loop-group.part.mantissa c.narrow_step-next.result.mantissa c.loop-group.part.log c.narrow_step-next.result.log c.loop-group.invariant.1 next.log in
    let most = log_most 62 _ (2 ^ 63) c.args.mantissa c.narrow_step-next.result.mantissa _ (omega arith) next.near.least (omega arith) over in
    omega arith

pub loop-group-preserved : goal.loop-group-preserved
loop-group-preserved c =
    let next = c.narrow_step-next.ensures in
    (next.near, over_next 62 c.loop-group.group c.args.mantissa c.loop-group.part.mantissa c.narrow_step-next.result.mantissa c.loop-group.part.log c.narrow_step-next.result.log c.loop-group.invariant.1 next.log)

pub returns-clause-near : goal.returns-clause-near
returns-clause-near c =
    let all : c.loop-group.group ≡ 3 = omega arith in
    subst (λ (i : ℕ). IsNearOne (2 ^ 63) 1 (128 ^ i) i c.loop-group.part.mantissa) all c.loop-group.invariant.0

pub returns-clause-log : goal.returns-clause-log
returns-clause-log c =
    let all : c.loop-group.group ≡ 3 = omega arith in
    subst (λ (i : ℕ). IsOver 62 (3 * i) c.args.mantissa c.loop-group.part.mantissa c.loop-group.part.log) all c.loop-group.invariant.1

pub returns-clause-most : goal.returns-clause-most
returns-clause-most c =
    log_most 62 _ (2 ^ 63) c.args.mantissa c.loop-group.part.mantissa c.loop-group.part.log (omega arith) c.loop-group.invariant.0.least (omega arith) c.loop-group.invariant.1
