use Rattle.std.proofs.Common.{◌≡◌, ◌+◌, ◌/◌, Bool, true, false, refl, ap, ◌∙◌}
use mir.Val.{bool_byte}
use Rattle.fixed_decimal.proofs.Halved.{halved, one_where}
use Rattle.fixed_decimal.proofs.halves.rounded_halves.Goals as goal

as_number : (b : Bool) → bool_byte b ≡ one_where b
as_number true = refl
as_number false = refl

pub returns : goal.returns
returns c n d h e r =
    ap (λ x. c.args.halves / 2 + x) (as_number c.moves_past-past.result ∙ ap one_where c.moves_past-past.ensures)
    ∙ rw (e, r) (halved c.args.rounding c.args.below_zero n d h)
