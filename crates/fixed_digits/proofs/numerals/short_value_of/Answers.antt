use Rattle.std.proofs.Common.{arith}
use Rattle.fixed_digits.proofs.Short.{none_read, one_read, room_for_one, all_read}
use Rattle.fixed_digits.proofs.numerals.short_value_of.Goals as goal

pub loop-b-init : goal.loop-b-init
loop-b-init c = none_read _

pub overflow_mul-value : goal.overflow_mul-value
overflow_mul-value c =
    let room = room_for_one c.loop-b.b-index _ c.loop-b.value 0 c.loop-b.invariant.below c.loop-b-test.true c.requires (omega arith) in
    omega arith

pub overflow_add-value : goal.overflow_add-value
overflow_add-value c =
    let digit = c.from.ensures in
    let most = c.if-digit-gt9.false in
    let room = room_for_one c.loop-b.b-index _ c.loop-b.value c.from.result c.loop-b.invariant.below c.loop-b-test.true c.requires (omega arith) in
    omega arith

pub loop-b-preserved : goal.loop-b-preserved
loop-b-preserved c =
    let byte = c.type_inv.bytes c.loop-b.b-index in
    let digit = c.from.ensures in
    let most = c.if-digit-gt9.false in
    one_read c.args.bytes.now c.loop-b.b-index c.loop-b.value c.from.result (omega arith) c.loop-b-test.true c.loop-b.invariant digit (omega arith)

pub returns : goal.returns
returns c = all_read c.args.bytes.now c.loop-b.b-index c.loop-b.value c.loop-b-test.false c.loop-b.invariant
