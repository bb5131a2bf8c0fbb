use Rattle.std.proofs.Common.{◌≡◌, ◌<◌, get_or, arith}
use Rattle.fixed_machine.proofs.QuickText.{natural_stands}
use Rattle.fixed_machine.proofs.quick.natural_at.Goals as goal
use Rattle.fixed_machine.proofs.quick.natural_at.Goals.{then-count-gt1, else-count-gt1}

pub returns : goal.returns
returns c =
    let bytes = c.args.bytes.now in
    let count = c.digits_at-value.result.1 in
    let first : 1 < count → get_or bytes c.args.at 0 ≡ 48 → ⊥ = λ more zero. elim c.if-count-gt1.branch [ then-count-gt1 w ↦ grind (arith, w.value-is, c.if-bytes-at-eq48.false) | else-count-gt1 w ↦ absurd (omega arith) ] in
    natural_stands bytes c.args.at c.digits_at-value.result.0 count c.requires (omega arith) (omega arith) first c.digits_at-value.ensures.digits c.digits_at-value.ensures.value (omega arith) (omega (arith, c.if-bytes-at-ne10.false))
