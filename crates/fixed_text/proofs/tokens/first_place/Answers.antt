use Rattle.std.proofs.Common.{◌≡◌, length, sym, subst, arith}
use Rattle.fixed_text.specs.inside.Free.{IsFreeUntil}
use Rattle.fixed_text.proofs.Free.{stands_at, stands_nowhere}
use Rattle.fixed_text.proofs.tokens.first_place.Goals as goal

pub returns-then-bytes-at : goal.returns-then-bytes-at
returns-then-bytes-at c = sym (stands_at c.args.bytes.now c.args.byte c.loop-at.at c.loop-at.invariant.free c.loop-at-test.true c.if-bytes-at.true)

pub returns : goal.returns
returns c =
    let end : c.loop-at.at ≡ length c.args.bytes.now = omega (arith, c.loop-at.invariant.within, c.loop-at-test.false) in
    sym (stands_nowhere c.args.bytes.now c.args.byte (subst (IsFreeUntil c.args.bytes.now c.args.byte) end c.loop-at.invariant.free))
