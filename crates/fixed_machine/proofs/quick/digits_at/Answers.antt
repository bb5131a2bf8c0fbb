use Rattle.std.proofs.Common.{◌≡◌, ◌+◌, ◌-◌, ◌*◌, ◌<◌, ◌∙◌, get_or, take, drop, sym, ap, arith}
use Rattle.std.specs.Char.{is_ascii_digit}
use Rattle.std.proofs.lemmas.List.{get_or-drop, get_or-take}
use Rattle.fixed_machine.proofs.QuickText.{value_small, digits_step, value_step}
use Rattle.fixed_machine.proofs.quick.digits_at.Goals as goal

pub overflow_mul-value : goal.overflow_mul-value
overflow_mul-value c =
    let small = value_small c.args.bytes.now c.args.at c.loop-count.count c.loop-count.value c.loop-count-test.true c.loop-count.invariant.digits c.loop-count.invariant.value in
    omega (arith, small)

pub overflow_add-value : goal.overflow_add-value
overflow_add-value c =
    let small = value_small c.args.bytes.now c.args.at c.loop-count.count c.loop-count.value c.loop-count-test.true c.loop-count.invariant.digits c.loop-count.invariant.value in
    omega (arith, small, c.from.ensures)

pub loop-count-preserved : goal.loop-count-preserved
loop-count-preserved c =
    let count = c.loop-count.count in
    let most = c.args.at + 19 - c.args.at in
    let few : count < most = omega (arith, c.loop-count-test.true) in
    let same : get_or (take most (drop c.args.at c.args.bytes.now)) count 0 ≡ get_or c.args.bytes.now (c.args.at + count) 0 =
    get_or-take most (drop c.args.at c.args.bytes.now) count 0 few ∙ get_or-drop c.args.at c.args.bytes.now count 0 in
    let here = ap is_ascii_digit (sym same) ∙ sym c.is_ascii_digit.ensures.value ∙ c.if-is_ascii_digit.true in
    record {
      most = omega arith;
      digits = digits_step c.args.bytes.now c.args.at c.loop-count.count c.requires c.loop-count-test.true c.loop-count.invariant.digits here;
      value =
          ap (λ d. c.loop-count.value * 10 + d) c.from.ensures
          ∙ ap (λ k. c.loop-count.value * 10 + (k - 48)) same
          ∙ value_step c.args.bytes.now c.args.at c.loop-count.count c.loop-count.value c.requires c.loop-count-test.true c.loop-count.invariant.value here;
    }
