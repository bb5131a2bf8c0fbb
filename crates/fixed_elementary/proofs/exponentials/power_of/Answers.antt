use Rattle.std.proofs.Common.{◌∙◌, subst, rules}
use Rattle.fixed_elementary.specs.Exp2.{IsExp2Up}
use Rattle.fixed_elementary.proofs.Raised.{room_broad, room_narrow}
use Rattle.fixed_elementary.proofs.exponentials.power_of.Goals as goal

pub returns-then-bits-le32 : goal.returns-then-bits-le32
returns-then-bits-le32 c =
    let up = c.narrow_power.ensures in
    let room = room_narrow c.args.bits (search rules) in
    (up.0, subst (λ k. IsExp2Up k c.args.exponent c.args.places up.0) room up.1, c.from.ensures ∙ up.2)

pub returns-else-bits-le32 : goal.returns-else-bits-le32
returns-else-bits-le32 c =
    let up = c.either_power.ensures in
    let room = room_broad c.args.bits (search rules) in
    (up.0, subst (λ k. IsExp2Up k c.args.exponent c.args.places up.0) room up.1, up.2)
