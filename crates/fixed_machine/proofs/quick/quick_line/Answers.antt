use Rattle.std.proofs.Common.{refl}
use Rattle.std.proofs.lemmas.Option.{IfSome_then}
use Rattle.fixed_machine.proofs.QuickText.{set_is_quick, applied_is_quick}
use Rattle.fixed_machine.proofs.quick.quick_line.Goals as goal

pub returns-then-is_text : goal.returns-then-is_text
returns-then-is_text c =
    let dest = c.in_ok-dest.ensures in
    set_is_quick c.args.count c.args.bytes.now _ c.in_ok-dest.at c.in_ok-below_zero.end refl record { dest = dest.0; a = dest.0; b = dest.0; c = dest.0 } dest.1 (c.if-is_text.ensures refl) c.in_ok-below_zero.ensures c.requires.room

pub returns : goal.returns
returns c =
    let dest = c.in_ok-dest.ensures in
    IfSome_then c.operands_at.result c.operands_at.ensures
    (λ found operands. applied_is_quick c.args.count c.args.bytes.now _ found.0 c.in_ok-dest.at c.in_ok-policy.at c.in_ok-op.at found.1 record { policy = c.in_ok-policy.policy; op = c.in_ok-op.op } c.arity_of.result c.arity_of.ensures refl dest.0 dest.1 c.in_ok-policy.ensures c.in_ok-op.ensures operands c.requires.room)
