use Rattle.std.proofs.Common.{◌^◌, arith, refl, rules}
use Rattle.fixed_elementary.proofs.Reading.{read_all, read_none, read_turn, room}
use Rattle.fixed_elementary.proofs.mantissas.narrow_squarings.Goals as goal

pub loop-i-init : goal.loop-i-init
loop-i-init c = read_none (2 ^ 63) c.args.a _ _ (omega arith) c.whole-start.ensures.value

pub overflow_mul-digits : goal.overflow_mul-digits
overflow_mul-digits c =
    let r = room (2 ^ 63) c.args.a c.loop-i.i _ _ c.args.places 64 (search rules) (omega (arith, c.requires.places)) c.loop-i.invariant in
    omega arith

pub overflow_add-digits : goal.overflow_add-digits
overflow_add-digits c =
    let r = room (2 ^ 63) c.args.a c.loop-i.i _ _ c.args.places 64 (search rules) (omega (arith, c.requires.places)) c.loop-i.invariant in
    let d = c.squared-next.ensures.digit in
    omega arith

pub loop-i-preserved : goal.loop-i-preserved
loop-i-preserved c = read_turn (2 ^ 63) c.args.a c.loop-i.i _ _ _ _ (omega arith) c.loop-i.invariant c.squared-next.ensures

pub returns : goal.returns
returns c = read_all 62 (2 ^ 63) c.args.a c.args.places c.loop-i.i _ _ refl (search rules) c.loop-i.invariant
