use Rattle.std.proofs.Common.{◌*◌, ◌^◌, drop, take, refl, arith}
use Rattle.std.specs.Str.Parse.{digits_value}
use Rattle.std.proofs.Math.Nat.{one-le-pow}
use Rattle.fixed_decimal.proofs.Shorts.{short_decided}
use Rattle.fixed_decimal.proofs.Decided.{decided, tail_is}
use Rattle.fixed_decimal.proofs.Heldness.{held_below}
use Rattle.fixed_decimal.proofs.reading.magnitude_of.Goals as goal

pub overflow_add-whole : goal.overflow_add-whole
overflow_add-whole c = omega (arith, c.units_of-whole.ensures, held_below (digits_value 10 (take c.in-Ok.point c.sign_of-below_zero.result.1.now) * 2 ^ c.args.frac), c.halves_of-halves.ensures.small)

pub returns-in-Ok : goal.returns-in-Ok
returns-in-Ok c =
    let bytes = c.sign_of-below_zero.result.1.now in
    decided c.sign_of-below_zero.result.0 c.args.text.now bytes (take c.in-Ok.point bytes) (drop c.smaller.result bytes) c.in-Ok.point c.args.frac c.units_of-whole.result c.halves_of-halves.result.0 c.rounded_halves-magnitude.result c.halves_of-halves.result.1 c.args.rounding
    c.sign_of-below_zero.ensures.minus c.sign_of-below_zero.ensures.rest c.in-Ok.ensures
    refl (tail_is bytes c.in-Ok.point c.smaller.result c.smaller.ensures)
    c.units_of-whole.ensures c.halves_of-halves.ensures.halves c.halves_of-halves.ensures.rest c.rounded_halves-magnitude.ensures

pub rounded_quotient-magnitude-requires-clause-by : goal.rounded_quotient-magnitude-requires-clause-by
rounded_quotient-magnitude-requires-clause-by c = omega (arith, c.ten_to.ensures, one-le-pow c.in-Some.places 10 (omega arith))

pub returns-in-Some : goal.returns-in-Some
returns-in-Some c =
    short_decided c.sign_of-below_zero.result.0 c.args.text.now c.sign_of-below_zero.result.1.now c.in-Some.value c.in-Some.places c.args.frac c.ten_to.result c.rounded_quotient-magnitude.result c.args.rounding
    c.sign_of-below_zero.ensures.minus c.sign_of-below_zero.ensures.rest c.in-Some.ensures c.ten_to.ensures c.rounded_quotient-magnitude.ensures
